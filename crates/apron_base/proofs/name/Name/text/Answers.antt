use Rattle.std.proofs.Common.{ℕ, ◌<◌, arith}
use Rattle.std.proofs.lemmas.List.Elements.{All-weaker}
use Rattle.std.proofs.lemmas.Str.{IsUtf8-from_ascii}
use Rattle.std.proofs.lemmas.Str.Ascii.{IsAscii-from_all}
use Rattle.apron_base.specs.Name.{IsName, IsNameByte}
use Rattle.apron_base.proofs.name.Name.text.Goals as goal

is_ascii : (b : ℕ) → IsNameByte b → b < 128
is_ascii b h = grind arith

pub unreachable-requires : goal.unreachable-requires
unreachable-requires c =
    let name : IsName c.bytes.result.now = rw c.bytes.ensures.value c.bytes.ensures.name in
    c.in-Err.ensures.cases.0
    (IsUtf8-from_ascii c.bytes.result.now
    (IsAscii-from_all c.bytes.result.now (All-weaker IsNameByte (λ b. b < 128) is_ascii c.bytes.result.now name.each)))
