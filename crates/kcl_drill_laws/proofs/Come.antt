-- How far a tenure has come (`Holds`) after each line of its own: a take and an opening, a read, a give or a mark.
use Rattle.std.proofs.Common.{◌≡◌, ℕ, ◌+◌, ◌≤◌, List, [], ◌∷◌, ◌++◌, drop, length, take, zero, suc, Option, Some, refl}
use Rattle.std.proofs.Common.{ap, ◌∙◌, arith}
use Rattle.std.specs.Prelude.{◌==◌, if◌then◌else◌}
use Rattle.std.specs.Option.{option_map}
use Rattle.std.proofs.lemmas.List.{drop-append-le, length_push, take-append-le}
use Rattle.kds_base.specs.declared.lease_key.ShardRef.{ShardRef}
use Rattle.kds_base.proofs.Facts.{is_itself}
use Rattle.kds_defs.specs.declared.command.Target.{Target}
use Rattle.kds_defs.specs.declared.reply.Row.{Row}
use Rattle.kds_defs.specs.Journal.{Journal}
use Rattle.kds_defs.specs.Leases.{TenureState, ReadDone, checkpoint_in, delivered, given_reads, is_key, key_of}
use Rattle.kds_defs.specs.Leases.{last_ended, marked_row, new_tenure, position_after_reads, start_position, row}
use Rattle.kds_defs.specs.Leases.{taken_count}
use Rattle.kds_defs.specs.Leases.{taken_row, tenure, with_given, with_opened, with_read}
use Rattle.kds_defs.specs.Records.{position_after}
use Rattle.kds_defs.proofs.Keys.{key_itself}
use Rattle.kcl_drill_laws.specs.Holding.{Holding, Holds, after_give, after_mark, after_read, begun_from, given_line}
use Rattle.kcl_drill_laws.specs.Holding.{marked_line, opened_line, read_line, taken_line}
use Rattle.kcl_laws.proofs.CheckpointLemmas.{positions_append}

-- ---- Lists of reads

last_one : (rs : List ReadDone) (r : ReadDone) → last_ended (rs ++ r ∷ []) ≡ r.ended
last_one [] r = refl
last_one (q ∷ []) r = refl
last_one (q ∷ s ∷ rs) r = last_one (s ∷ rs) r

take_more : (n : ℕ) (rs : List ReadDone) (r : ReadDone) (rest : List ReadDone) → drop n rs ≡ r ∷ rest
    → take (suc n) rs ≡ take n rs ++ r ∷ []
take_more zero [] r rest is = absurd cc
take_more zero (q ∷ rs) r rest is = let e : q ≡ r = cc in ap (λ x. x ∷ []) e
take_more (suc n) [] r rest is = absurd cc
take_more (suc n) (q ∷ rs) r rest is = ap (λ qs. q ∷ qs) (take_more n rs r rest is)

drop_more : (n : ℕ) (rs : List ReadDone) (r : ReadDone) (rest : List ReadDone) → drop n rs ≡ r ∷ rest
    → drop (suc n) rs ≡ rest
drop_more zero [] r rest is = absurd cc
drop_more zero (q ∷ rs) r rest is = let e : rs ≡ rest = cc in e
drop_more (suc n) [] r rest is = absurd cc
drop_more (suc n) (q ∷ rs) r rest is = drop_more n rs r rest is

some_more : (n : ℕ) (rs : List ReadDone) (r : ReadDone) (rest : List ReadDone) → drop n rs ≡ r ∷ rest
    → suc n ≤ length rs
some_more zero [] r rest is = absurd cc
some_more zero (q ∷ rs) r rest is = omega arith
some_more (suc n) [] r rest is = absurd cc
some_more (suc n) (q ∷ rs) r rest is = let e = some_more n rs r rest is in omega arith

-- ---- The given reads after a give

pub one_more_given : (T : TenureState) (r : ReadDone) (rest : List ReadDone) → drop T.given T.reads ≡ r ∷ rest
    → given_reads (with_given T) ≡ given_reads T ++ r ∷ []
one_more_given T r rest is =
    let e : T.given + 1 ≡ suc T.given = omega arith in
    ap (λ n. take n T.reads) e ∙ take_more T.given T.reads r rest is

pub given_position : (T : TenureState) (r : ReadDone) (rest : List ReadDone) → drop T.given T.reads ≡ r ∷ rest
    → delivered (with_given T) ≡ position_after (delivered T) r.numbers
given_position T r rest is = ap (position_after_reads (start_position T.start)) (one_more_given T r rest is)
    ∙ positions_append (start_position T.start) (given_reads T) r

-- ---- A take and an opening

pub begun_tenure : (log : Journal) (c actor owner : ℕ) (key : ShardRef) (r : Row) → row log key ≡ Some r
    → tenure (taken_line log c actor key r owner ∷ log) (taken_count log + 1) ≡ Some (new_tenure actor key r.checkpoint)
begun_tenure log c actor owner key r there =
    ap (λ b. if b then Some (new_tenure actor key (checkpoint_in (row log key))) else tenure log (taken_count log + 1))
    (is_itself (taken_count log + 1))
    ∙ ap (λ k. Some (new_tenure actor key k)) (ap checkpoint_in there)

pub begun_row : (log : Journal) (c actor owner : ℕ) (key : ShardRef) (r : Row) → row log key ≡ Some r
    → row (taken_line log c actor key r owner ∷ log) key ≡ Some (taken_row (taken_count log + 1) owner r)
begun_row log c actor owner key r there =
    ap (λ b. if b then option_map (taken_row (taken_count log + 1) owner) (row log key) else row log key)
    (key_itself key)
    ∙ ap (option_map (taken_row (taken_count log + 1) owner)) there

told : (t : ℕ) (o : Option TenureState) (T : TenureState) (f : TenureState → TenureState) → o ≡ Some T
    → (if t == t then option_map f o else o) ≡ Some (f T)
told t o T f is = ap (λ b. if b then option_map f o else o) (is_itself t) ∙ ap (option_map f) is

pub begun_holds : (log : Journal) (c d actor owner : ℕ) (key : ShardRef) (r : Row) → row log key ≡ Some r
    → Holds (opened_line log d actor ∷ taken_line log c actor key r owner ∷ log) (begun_from log actor key r)
begun_holds log c d actor owner key r there =
    let t = taken_count log + 1 in
    let now = taken_line log c actor key r owner ∷ log in
    record {
      tenure = record {
        state = with_opened (new_tenure actor key r.checkpoint);
        begun = told t (tenure now t) (new_tenure actor key r.checkpoint) with_opened
            (begun_tenure log c actor owner key r there);
        took = ap (λ b. if b then Some key else key_of log t) (is_itself t);
        own = refl;
        of_key = refl;
        opened = refl;
        up_to = refl;
        given_to = refl;
        some = omega arith;
        waits = refl;
        last = refl;
      };
      row = record {
        now = taken_row t owner r;
        there = begun_row log c actor owner key r there;
        of_tenure = refl;
        counted = refl;
        checkpoint = refl;
        floor = refl;
      };
    }

-- ---- A read, a give and a mark

pub read_holds : (log : Journal) (c limit : ℕ) (x : Holding) (r : ReadDone) → Holds log x
    → Holds (read_line c x limit r ∷ log) (after_read x r)
read_holds log c limit x r holds =
    let has = holds.tenure in
    let held = holds.row in
    let T = has.state in
    record {
      tenure = record {
        state = with_read r.numbers r.ended T;
        begun = told x.tenure (tenure log x.tenure) T (with_read r.numbers r.ended) has.begun;
        took = has.took;
        own = has.own;
        of_key = has.of_key;
        opened = has.opened;
        up_to = positions_append (start_position T.start) T.reads r ∙ ap (λ p. position_after p r.numbers) has.up_to;
        given_to = ap (position_after_reads (start_position T.start)) (take-append-le T.given T.reads (r ∷ []) has.some)
            ∙ has.given_to;
        some = omega (arith, has.some, length_push T.reads r);
        waits = drop-append-le T.given T.reads (r ∷ []) has.some ∙ ap (λ qs. qs ++ r ∷ []) has.waits;
        last = ap last_ended (take-append-le T.given T.reads (r ∷ []) has.some) ∙ has.last;
      };
      row = record {
        now = held.now;
        there = held.there;
        of_tenure = held.of_tenure;
        counted = held.counted;
        checkpoint = held.checkpoint;
        floor = held.floor;
      };
    }

pub give_holds : (log : Journal) (c : ℕ) (x : Holding) (r : ReadDone) (rest : List ReadDone) → Holds log x
    → x.waiting ≡ r ∷ rest → Holds (given_line c x ∷ log) (after_give x r rest)
give_holds log c x r rest holds first =
    let has = holds.tenure in
    let held = holds.row in
    let T = has.state in
    let is = has.waits ∙ first in
    let e : T.given + 1 ≡ suc T.given = omega arith in
    record {
      tenure = record {
        state = with_given T;
        begun = told x.tenure (tenure log x.tenure) T with_given has.begun;
        took = has.took;
        own = has.own;
        of_key = has.of_key;
        opened = has.opened;
        up_to = has.up_to;
        given_to = given_position T r rest is ∙ ap (λ p. position_after p r.numbers) has.given_to;
        some = let n = some_more T.given T.reads r rest is in omega arith;
        waits = ap (λ n. drop n T.reads) e ∙ drop_more T.given T.reads r rest is;
        last = ap last_ended (one_more_given T r rest is) ∙ last_one (given_reads T) r;
      };
      row = record {
        now = held.now;
        there = held.there;
        of_tenure = held.of_tenure;
        counted = held.counted;
        checkpoint = held.checkpoint;
        floor = held.floor;
      };
    }

pub mark_holds : (log : Journal) (c : ℕ) (x : Holding) (target : Target) → Holds log x
    → Holds (marked_line c x target ∷ log) (after_mark x target)
mark_holds log c x target holds =
    let has = holds.tenure in
    let held = holds.row in
    record {
      tenure = record {
        state = has.state;
        begun = has.begun;
        took = has.took;
        own = has.own;
        of_key = has.of_key;
        opened = has.opened;
        up_to = has.up_to;
        given_to = has.given_to;
        some = has.some;
        waits = has.waits;
        last =
            has.last;
      };
      row = record {
        now = marked_row target held.now;
        there = ap (λ b. if b then option_map (marked_row target) (row log x.key) else row log x.key)
            (ap (λ o. is_key o x.key) has.took ∙ key_itself x.key) ∙ ap (option_map (marked_row target)) held.there;
        of_tenure = held.of_tenure;
        counted = ap (λ m. m + 1) held.counted;
        checkpoint = refl;
        floor = held.floor;
      };
    }
