use Rattle.http_framing.proofs.OneReading.{one_reading_law}
use Rattle.http_framing.proofs.laws.requests_have_one_reading.Goals as goal

pub returns : goal.returns
returns c = record { one = one_reading_law }
