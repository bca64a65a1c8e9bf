-- The words of rules.
use Rattle.std.specs.Prelude.{ℕ, List, codes}
use Rattle.apron_rules.specs.declared.rules.Rule.{Rule}
use Rattle.apron_rules.specs.declared.rules.Rule.TheVariants.{Same, Split, Clearance, Pair}

-- the word of a rule
abbrev pub rule_word : Rule → List ℕ
rule_word Same = codes "same"
rule_word Split = codes "split"
rule_word Clearance = codes "clearance"
rule_word Pair = codes "pair"
