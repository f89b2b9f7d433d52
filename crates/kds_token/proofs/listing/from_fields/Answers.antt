use Rattle.std.proofs.Common.{rules}
use Rattle.kds_token.specs.Tokens.{page_from}
use Rattle.kds_token.proofs.listing.from_fields.Goals as goal

pub returns : goal.returns
unfolding page_from
returns c = search rules
