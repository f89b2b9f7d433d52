-- The service finds a command's stream and tells it of the others, or refuses as the machine does.
use Rattle.std.proofs.Common.{◌≡◌, ℕ, ◌+◌, Bool, true, false, List, slice_get, Option, Some, None, length, refl, sym}
use Rattle.std.proofs.Common.{ap, ◌∙◌}
use Rattle.std.specs.Prelude.{◌-◌, not, if◌then◌else◌}
use Rattle.std.specs.List.{filter}
use Rattle.std.proofs.lemmas.Bool.{not_from_false}
use Rattle.std.proofs.lemmas.Option.{same_Some}
use Rattle.kds_defs.specs.declared.command.Command.{Command}
use Rattle.kds_defs.specs.declared.command.Command.TheVariants as command
use Rattle.kds_defs.specs.declared.limits.TheConstants.{OPEN_SHARDS}
use Rattle.kds_defs.specs.declared.reply.Refusal.{Refusal}
use Rattle.kds_defs.specs.declared.reply.Refusal.TheVariants as refusal
use Rattle.kds_defs.specs.Decision.{Decision, Refused, refuse◌if◌else◌}
use Rattle.kds_defs.specs.Histories.{decide}
use Rattle.kds_defs.specs.Journal.{Journal}
use Rattle.kds_defs.specs.Kinds.{is_service}
use Rattle.kds_defs.specs.Listings.{is_expired_token}
use Rattle.kds_defs.specs.Shards.{is_open}
use Rattle.kds_defs.specs.Streams.{is_live}
use Rattle.kds_defs.specs.Subjects.{name_of_command}
use Rattle.kds_defs.proofs.Decisions.{passed_if, refused_if, with_none}
use Rattle.kds_stream.specs.Serving.{IsToldOf, needs_open_limit, is_of_stream, token_stream}
use Rattle.kds_stream.specs.Showing.{Shows}
use Rattle.kds_stream.specs.Value.{StreamValue}
use Rattle.kds_service.proofs.Lists.{all_get}
use Rattle.kds_service.proofs.Readings.{beside_is, from_zero, has_name, named_at, none_named, not_among, number_at}
use Rattle.kds_service.proofs.Readings.{open_are, own_and_beside}
use Rattle.kds_service.specs.Indexes.{token_refusal, open_beside, index_by_number, index_by, index_for, index_by_name}
use Rattle.kds_service.specs.Shown.{ServiceValue, ShowsAll, numbers_of}

pub rest_of : (asked : Command) → is_service asked ≡ true
    → ((name : List ℕ) (count : ℕ) → asked ≡ command.Create name count → ⊥)
    → ((name : List ℕ) → asked ≡ command.Delete name → ⊥)
    → ((after : Option (List ℕ)) (limit : ℕ) → asked ≡ command.Streams after limit → ⊥)
    → is_of_stream asked ≡ true
rest_of (command.Create name count) own makes ends lists = absurd (makes name count refl)
rest_of (command.Delete name) own makes ends lists = absurd (ends name refl)
rest_of (command.Streams after limit) own makes ends lists = absurd (lists after limit refl)
rest_of _ own makes ends lists = own

-- ---- The index of the stream that a command is for

pub token_index : (vs : List StreamValue) (asked : Command) (s : ℕ) → token_stream asked ≡ Some s
    → index_for vs asked ≡ index_by_number vs s
token_index vs asked s is = ap (λ t. index_by vs t (name_of_command asked)) is

pub name_index : (vs : List StreamValue) (asked : Command) (name : List ℕ) → name_of_command asked ≡ Some name
    → index_for vs asked ≡ index_by_name vs name
name_index vs (command.Records iter limit) name is = absurd cc
name_index vs (command.More page limit) name is = absurd cc
name_index vs _ name is = ap (index_by vs None) is

pub numbered : (i s : ℕ) (vs : List StreamValue) (x : StreamValue) → index_by_number vs s ≡ Some i
    → slice_get vs i ≡ Some x
    → s ≡ x.no
numbered i s vs x found here = number_at 0 i s vs x (found ∙ ap Some (from_zero i)) here

-- ---- Refusals

old_so : (r r' : Refusal) (b : Bool) (d : Decision) → (if b then Some r else None) ≡ Some r'
    → (refuse r if b else d) ≡ Refused r'
unfolding refuse◌if◌else◌
old_so r r' true d is = ap Refused (same_Some r r' is)
old_so r r' false d is = absurd cc

young_so : (r : Refusal) (b : Bool) → (if b then Some r else None) ≡ None → b ≡ false
young_so r true is = absurd cc
young_so r false is = refl

-- The machine refuses a command whose token is too old after every journal.
pub expired_so : (log : Journal) (c actor : ℕ) (asked : Command) (r : Refusal) → token_refusal c asked ≡ Some r
    → decide log c actor asked ≡ Refused r
expired_so log c actor (command.Records iter limit) r is =
    old_so refusal.Expired r (is_expired_token c iter.issued) _ is
expired_so log c actor (command.More page limit) r is =
    old_so refusal.PageExpired r (is_expired_token c page.issued) _ is
expired_so log c actor _ r is = absurd cc

gone : (w : ServiceValue) (s : ℕ) (log : Journal) → index_by_number w.streams s ≡ None → ShowsAll w log
    → not (is_live log s) ≡ true
gone w s log none all = not_from_false (is_live log s) (all.others s (not_among 0 s (numbers_of w.streams) none))

-- Without the command's stream, the machine refuses with NoStream, if no old token came first.
pub gone_so : (w : ServiceValue) (log : Journal) (actor : ℕ) (asked : Command) → ShowsAll w log
    → is_of_stream asked ≡ true
    → token_refusal w.clock asked ≡ None
    → index_for w.streams asked ≡ None → decide log w.clock actor asked ≡ Refused refusal.NoStream
gone_so w log actor (command.Create name count) all own young none = absurd cc
gone_so w log actor (command.Delete name) all own young none = absurd cc
gone_so w log actor (command.Streams after limit) all own young none = absurd cc
gone_so w log actor command.Survey all own young none = absurd cc
gone_so w log actor (command.MakeLease key origin) all own young none = absurd cc
gone_so w log actor (command.Take key counter owner) all own young none = absurd cc
gone_so w log actor (command.Renew t counter) all own young none = absurd cc
gone_so w log actor (command.Free t counter) all own young none = absurd cc
gone_so w log actor (command.OpenShard t) all own young none = absurd cc
gone_so w log actor (command.Read t position limit) all own young none = absurd cc
gone_so w log actor (command.Give t) all own young none = absurd cc
gone_so w log actor (command.Mark t counter target) all own young none = absurd cc
gone_so w log actor (command.CutLease key counter) all own young none = absurd cc
gone_so w log actor (command.Records iter limit) all own young none =
    passed_if _ _ _ (young_so refusal.Expired (is_expired_token w.clock iter.issued) young)
    ∙ refused_if _ _ _ (gone w iter.stream log none all)
gone_so w log actor (command.More page limit) all own young none =
    passed_if _ _ _ (young_so refusal.PageExpired (is_expired_token w.clock page.issued) young)
    ∙ refused_if _ _ _ (gone w page.stream log none all)
gone_so w log actor _ all own young none = with_none _ _ _ (none_named w log _ all none)

-- ---- What the stream at the index is told about the other streams

-- The stream that the command is for is told what it must know of the others.
pub told_so : (w : ServiceValue) (log : Journal) (i : ℕ) (x : StreamValue) (request : Command) (open_limit : ℕ)
    → ShowsAll w log
    → slice_get w.streams i ≡ Some x
    → index_for w.streams request ≡ Some i
    → (needs_open_limit request ≡ true → open_limit ≡ OPEN_SHARDS - open_beside w.streams x.no)
    → IsToldOf request open_limit x log
told_so w log i x request open_limit all here found asked = record {
  shown = all_get (λ v. Shows v log) i w.streams x all.shown here;
  named = λ name is.
      let is_at = sym (name_index w.streams request name is) ∙ found in
      (has_name name i w.streams x is_at here, named_at w log name i x all is_at here);
  opened =
      open_are w log all ∙ own_and_beside i 0 w.streams x all.rising here
      ∙ ap (λ n. n + length (filter is_open x.tree)) (sym (beside_is w log x.no all));
  fits = λ asks. asked asks ∙ ap (λ n. OPEN_SHARDS - n) (sym (beside_is w log x.no all));
}
