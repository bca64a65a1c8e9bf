-- Rows of failures, as a loop passes over them.
use Rattle.std.proofs.Common.{◌≡◌, ◌++◌, Bool, List, Option, IfSome, IsSomeAnd, if◌then◌else◌}
use Rattle.std.specs.declared.io.Error.{Error}
use Rattle.tcp_desks.specs.Taking.{Notice, end_of_row, first_lasting, notices}

-- the failures that are left end as those at the beginning do
abbrev pub EndsAlike : Option (List Error) → Option (List Error) → Type 0
EndsAlike begun left = IfSome begun (λ causes. IsSomeAnd left (λ others. first_lasting others ≡ first_lasting causes))

-- the notices so far, with those of the failures that are left, are those of the failures at the
-- beginning
abbrev pub ReportsAlike : Bool → Option (List Error) → Option (List Error) → Option (List Notice) → Option (List Notice) → Type 0
ReportsAlike is_reported begun left before now =
    IfSome begun (λ causes. IfSome before (λ said. IsSomeAnd left (λ others. IsSomeAnd now (λ so_far.
    so_far ++ (if is_reported then end_of_row others else notices others) ≡ said ++ notices causes))))
