-- What a crash may leave of a journal that a run opens and uses, over the moments of its disk.
use Rattle.std.specs.Prelude.{◌≡◌, ◌⊎◌, ◌<◌, ◌≤◌, ◌+◌, ℕ, List, length, take, Option, Some, IfSome, Ok}
use Rattle.apron_base.specs.Keeper.{KeeperState, with_last}
use Rattle.desk_asks.specs.declared.asks.Entry.{Entry}
use Rattle.history_core.specs.Board.{entry_texts}
use Rattle.journal_disk.specs.Disk.{DiskState, EachImage, IfExposed, TellsAlike}
use Rattle.journal_disk.specs.Header.{opening_of}

-- each image that a crash may leave from one moment of a disk to another
abbrev pub EachImageFrom : ℕ → ℕ → DiskState → (List ℕ → Type 0) → Type 0
EachImageFrom first last disk P =
    (moment : ℕ) (image : List ℕ)
    → first ≤ moment → moment ≤ last → disk.images moment image → P image

-- What a crash may leave of a journal that was opened in a call, up to now, if the bytes of its
-- disk tell its entries. Up to the moment at which it was open: what it could leave when the call
-- began. From then on some number of its entries is sure at each moment. It is at first no less
-- than that of the entries that the journal was opened with, never falls, and is now that of all. A
-- crash leaves the sure entries, or these and the next one; or, if a call of the disk has failed,
-- the sure entries and another one.
pub record LeavesFronts (digests : List ℕ) (entries : List ℕ → List (List ℕ))
    (begun now : DiskState) : Type 0 where
  pub opened : List (List ℕ)
  pub opens : IfExposed begun (λ bytes. opening_of digests bytes ≡ Ok opened)
  pub tells : TellsAlike begun now
  pub moment : ℕ
  pub order : (begun.moment ≤ moment) × (moment ≤ now.moment)
  pub earlier : EachImageFrom begun.moment moment now (begun.images begun.moment)
  pub sure : ℕ → ℕ
  pub some : length opened ≤ sure moment
  pub rises : (one other : ℕ) → one ≤ other → sure one ≤ sure other
  pub all : IfExposed now (λ bytes. sure now.moment ≡ length (entries bytes))
  pub later : IfExposed now (λ bytes. (at : ℕ) (image : List ℕ)
      → moment ≤ at → at ≤ now.moment → now.images at image
      → (opening_of digests image ≡ Ok (take (sure at) (entries bytes)))
      ⊎ ((sure at < length (entries bytes))
      × (opening_of digests image ≡ Ok (take (sure at + 1) (entries bytes))))
      ⊎ ((1 ≤ now.faults) × (more : List ℕ)
      × (opening_of digests image ≡ Ok (with_last more (take (sure at) (entries bytes))))))

-- an entry is at risk only if a call of the disk has failed
abbrev pub RisksIfFailed : KeeperState → Type 0
RisksIfFailed keeper = IfSome keeper.at_risk (λ text. 1 ≤ keeper.faults)

-- What a crash may leave of the journal of the files of these digests, which a run opened and left
-- with this history and this entry at risk: during the run, as just said; and after it the history,
-- or this and the entry at risk.
pub record Survives (digests : List ℕ) (history : List Entry) (at_risk : Option Entry)
    (before after : DiskState) : Type 0 where
  pub fronts : LeavesFronts digests (λ bytes. entry_texts history) before after
  pub last : IfExposed after (λ bytes. EachImage after (λ image.
      (opening_of digests image ≡ Ok (entry_texts history))
      ⊎ ((entry : Entry) × (at_risk ≡ Some entry)
      × (opening_of digests image ≡ Ok (entry_texts (with_last entry history))))))
