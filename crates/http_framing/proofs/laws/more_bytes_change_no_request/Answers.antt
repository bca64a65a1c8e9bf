use Rattle.http_framing.proofs.StreamLaws.{splits_more, malformed_more}
use Rattle.http_framing.proofs.laws.more_bytes_change_no_request.Goals as goal

pub returns-clause-requests : goal.returns-clause-requests
returns-clause-requests c = splits_more

pub returns-clause-refusals : goal.returns-clause-refusals
returns-clause-refusals c = malformed_more
