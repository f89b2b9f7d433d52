use Rattle.std.proofs.Common.{◌≡◌, sym, rules, arith}
use Rattle.std.specs.Prelude.{None}
use Rattle.base64.specs.GeneralPurpose.{IsBytes}
use Rattle.kds_token.specs.Tokens.{iter_of}
use Rattle.kds_token.proofs.TokenLemmas.{iter_reads_as}
use Rattle.kds_token.proofs.iterator.read_iter.Goals as goal

pub returns-in-Some-clause-exact : goal.returns-in-Some-clause-exact
returns-in-Some-clause-exact c =
    let bytes : IsBytes c.args.text.now = λ i. omega (arith, c.type_inv.text i) in
    let e : c.in_text.result ≡ iter_of c.args.text.now = search rules in
    iter_reads_as c.args.text.now c.in_text.result bytes (sym e)

pub returns-in-None-clause-exact : goal.returns-in-None-clause-exact
returns-in-None-clause-exact c =
    let bytes : IsBytes c.args.text.now = λ i. omega (arith, c.type_inv.text i) in
    let e : None ≡ iter_of c.args.text.now = search rules in
    iter_reads_as c.args.text.now None bytes (sym e)
