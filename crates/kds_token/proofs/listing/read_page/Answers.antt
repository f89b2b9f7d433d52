use Rattle.std.proofs.Common.{◌≡◌, sym, rules, arith}
use Rattle.std.specs.Prelude.{None}
use Rattle.base64.specs.GeneralPurpose.{IsBytes}
use Rattle.kds_token.specs.Tokens.{page_of}
use Rattle.kds_token.proofs.TokenLemmas.{page_reads_as}
use Rattle.kds_token.proofs.listing.read_page.Goals as goal

pub returns-in-Some-clause-exact : goal.returns-in-Some-clause-exact
returns-in-Some-clause-exact c =
    let bytes : IsBytes c.args.text.now = λ i. omega (arith, c.type_inv.text i) in
    let e : c.in_text.result ≡ page_of c.args.text.now = search rules in
    page_reads_as c.args.text.now c.in_text.result bytes (sym e)

pub returns-in-None-clause-exact : goal.returns-in-None-clause-exact
returns-in-None-clause-exact c =
    let bytes : IsBytes c.args.text.now = λ i. omega (arith, c.type_inv.text i) in
    let e : None ≡ page_of c.args.text.now = search rules in
    page_reads_as c.args.text.now None bytes (sym e)
