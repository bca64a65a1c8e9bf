-- Why a command is refused, as replies give it.
use Rattle.std.specs.Prelude.{ℕ, List, codes}
use Rattle.serde_json.specs.Data.{Data, null, string, object, member, no_members}
use Rattle.apron_base.specs.declared.numbers.VisitNo.{VisitNo}
use Rattle.apron_rules.specs.declared.rules.UnfitBy.{UnfitBy}
use Rattle.apron_rules.specs.declared.rules.UnfitBy.TheVariants.{Letter, Object}
use Rattle.apron_rules.specs.declared.rules.Clash.{Clash as TheClash}
use Rattle.visit_book.specs.declared.edits.EditFault.{EditFault}
use Rattle.visit_book.specs.declared.edits.EditFault.TheVariants.{UnknownVisit, Overtaken, Gone, NoSuchPart, OnBlock, BadCut, BadJoin, Unfit, Clash, Memory}
use Rattle.desk_words.specs.declared.replies.Denial.{Denial}
use Rattle.desk_words.specs.declared.replies.Denial.TheVariants as denial
use Rattle.apron_rules.specs.RuleWords.{rule_word}
use Rattle.desk_words.specs.PartObjects.{part_data, whole}

-- {"error":WORD,"version":N}
abbrev pub refused_data : List ℕ → ℕ → Data
refused_data error version =
    object
    (member (codes "error") (string error) (member (codes "version") (whole version) no_members))

-- {"edit":K,"error":WORD,"version":N}
abbrev pub edit_data : ℕ → List ℕ → ℕ → Data
edit_data edit error version =
    object (member (codes "edit") (whole edit)
    (member (codes "error") (string error)
    (member (codes "version") (whole version) no_members)))

-- {"edit":K,"edited":E,"error":"overtaken","version":V,"visit":N}
abbrev pub overtaken_data : ℕ → VisitNo → ℕ → ℕ → Data
overtaken_data edit visit edited version =
    object (member (codes "edit") (whole edit)
    (member (codes "edited") (whole edited)
    (member (codes "error") (string (codes "overtaken"))
    (member (codes "version") (whole version)
    (member (codes "visit") (whole visit.0) no_members)))))

-- {"error":"name","version":V,"visit":N}
abbrev pub other_name_data : VisitNo → ℕ → Data
other_name_data visit version =
    object (member (codes "error") (string (codes "name"))
    (member (codes "version") (whole version)
    (member (codes "visit") (whole visit.0) no_members)))

-- "letter" or {"object":K}
abbrev pub by_data : UnfitBy → Data
by_data Letter = string (codes "letter")
by_data (Object place) = object (member (codes "object") (whole place) no_members)

-- {"by":BY,"edit":K,"error":"unfit","version":N}
abbrev pub unfit_data : UnfitBy → ℕ → ℕ → Data
unfit_data by edit version =
    object (member (codes "by") (by_data by)
    (member (codes "edit") (whole edit)
    (member (codes "error") (string (codes "unfit"))
    (member (codes "version") (whole version) no_members))))

-- {"a":PART,"b":PART,"error":"clash","minute":M,"rule":WORD,"version":N}
abbrev pub clash_data : TheClash → ℕ → Data
clash_data clash version =
    object (member (codes "a") (part_data clash.a)
    (member (codes "b") (part_data clash.b)
    (member (codes "error") (string (codes "clash"))
    (member (codes "minute") (whole clash.minute)
    (member (codes "rule") (string (rule_word clash.rule))
    (member (codes "version") (whole version) no_members))))))

-- why a commit was refused; a lack of memory isn't said here
abbrev pub fault_data : EditFault → ℕ → Data
fault_data (UnknownVisit edit) version = edit_data edit (codes "unknown") version
fault_data (Overtaken edit visit edited) version = overtaken_data edit visit edited version
fault_data (Gone edit) version = edit_data edit (codes "gone") version
fault_data (NoSuchPart edit) version = edit_data edit (codes "part") version
fault_data (OnBlock edit) version = edit_data edit (codes "onblock") version
fault_data (BadCut edit) version = edit_data edit (codes "cut") version
fault_data (BadJoin edit) version = edit_data edit (codes "join") version
fault_data (Unfit edit by) version = unfit_data by edit version
fault_data (Clash clash) version = clash_data clash version
fault_data Memory version = null

-- the word for why a report or a cancel was denied
abbrev pub denial_word : Denial → List ℕ
denial_word denial.Unknown = codes "unknown"
denial_word denial.Gone = codes "gone"
denial_word denial.NoSuchPart = codes "part"
denial_word denial.Time = codes "time"
denial_word denial.OnBlock = codes "onblock"
