-- The lines of a scaling are good, because each is a merge or split that would be accepted by itself.
use Rattle.std.proofs.Common.{◌≡◌, ℕ, zero, suc, ◌+◌, ◌-◌, ◌^◌, ◌<◌, ◌≤◌, Bool, true, false, List, [], ◌∷◌, ◌++◌}
use Rattle.std.proofs.Common.{length, map, Option, Some, None, refl, sym, ap, subst, ◌∙◌, arith}
use Rattle.std.specs.Prelude.{◌==◌, ◌&&◌, ◌||◌, cond, is_none, not, nat_le, nat_lt, if◌then◌else◌}
use Rattle.std.specs.List.{AllByRecursion, filter}
use Rattle.std.proofs.lemmas.Bool.Decides.{nat_tests}
use Rattle.kds_base.specs.Span.{Span, is_inside, are_adjacent}
use Rattle.kds_base.proofs.Facts.{equal_unless, is_itself}
use Rattle.kds_defs.specs.declared.entry.Entry.{Entry}
use Rattle.kds_defs.specs.declared.entry.Entry.TheVariants as entry
use Rattle.kds_defs.specs.declared.limits.TheConstants.{OPEN_SHARDS}
use Rattle.kds_defs.specs.declared.reply.Refusal.TheVariants as refusal
use Rattle.kds_defs.specs.declared.reply.Reply.{Reply}
use Rattle.kds_defs.specs.declared.reply.Reply.TheVariants as replies
use Rattle.kds_defs.specs.declared.scale.ScaleStep.TheVariants.{Join, Cut}
use Rattle.kds_defs.specs.Decision.{Accepted}
use Rattle.kds_defs.specs.Journal.{Line, Journal, plain_line}
use Rattle.kds_defs.specs.Legal.{told, IsGood, IsLegal, IsInRange, last_clock}
use Rattle.kds_defs.specs.Records.{next_number}
use Rattle.kds_defs.specs.ScaleCommands.{made_by, open_elsewhere, step_entry, step_lines, steps_to}
use Rattle.kds_defs.specs.Scaling.{LeadTo, is_start, left_out, uniform_starts, with_start, without}
use Rattle.kds_defs.specs.Shards.{ShardState, Closing, closing_of, home, is_closed_below, is_listed_state, is_open}
use Rattle.kds_defs.specs.Shards.{merged_shards, open_count, open_in, open_shards, range_of, shard_at, shards}
use Rattle.kds_defs.specs.Shards.{shards_after, split_shards, was_closed_below}
use Rattle.kds_defs.specs.StreamCommands.{is_open_at, last_number}
use Rattle.kds_defs.specs.Streams.{is_live, live_streams, made_count, numbers_from, trim_floor, was_made}
use Rattle.kds_defs.proofs.Decisions.{passes, holds_so, passed_if}
use Rattle.kds_defs.proofs.Counted.{length_merged, length_split}
use Rattle.kds_scale.proofs.Leading.{leads}
use Rattle.kds_scale.proofs.Partitions.{IsBounded, IsScalable, Joins, Cuts, after_cut, after_join, below_wanted}
use Rattle.kds_scale.proofs.Partitions.{bounded_merged, bounded_new, bounded_split, cuts, joins, joins_touch}
use Rattle.kds_scale.proofs.Partitions.{length_starts, length_wanted, length_with, open_starts, range_bounded}
use Rattle.kds_scale.proofs.Partitions.{rise_open, scalable_cut, scalable_joined, starts_cut, starts_joined}
use Rattle.kds_scale.proofs.Starts.{rise_wanted, wanted_zero}
use Rattle.kcl_laws.proofs.Added.{Adds, in_live, draws_one}
use Rattle.kcl_laws.proofs.Numbering.{numbered, made_if_live}
use Rattle.kcl_laws.proofs.PartitionLemmas.{tiled}

-- ---- The ends of a stream's shards lie below 2^128

inside_below : (r : Span) (hash : ℕ) → is_inside r hash ≡ true → r.end < 2 ^ 128 → hash < 2 ^ 128
inside_below r hash h g = let is_to : hash ≤ r.end = grind (arith, nat_tests) in omega arith

chosen : (b : Bool) (xs ys : List ShardState) → AllByRecursion IsBounded xs → AllByRecursion IsBounded ys
    → AllByRecursion IsBounded (if b then xs else ys)
chosen true xs ys h g = h
chosen false xs ys h g = g

bounded_after : (log : Journal) (line : Line) (e : Entry) (reply : Reply) → IsInRange e
    → told log line e ≡ Accepted (line ∷ []) reply
    → ((s : ℕ) → AllByRecursion IsBounded (shards log s)) → (s start : ℕ)
    → AllByRecursion IsBounded (shards_after line e s start (shards log s))
bounded_after log line (entry.Made stream name count) reply range h old s start =
    chosen (stream == s) _ _ (bounded_new count start range.0 range.1) (old s)
bounded_after log line (entry.Split stream sh hash number low high) reply range h old s start =
    let a = passes _ _ _ _ reply h in
    let b = passes _ _ _ _ reply a.1 in
    let d = passes _ _ _ _ reply b.1 in
    let e = passes _ _ _ _ reply d.1 in
    let fits = inside_below (range_of (shard_at log stream sh)) hash (holds_so _ e.0)
    (range_bounded (shards log stream) sh _ refl (old stream)) in
    chosen (stream == s) _ _ (bounded_split (shards log s) sh hash (closing_of line number) start fits (old s))
    (old s)
bounded_after log line (entry.Merged stream sh other number child) reply range h old s start =
    chosen (stream == s) _ _ (bounded_merged (shards log s) sh other (closing_of line number) start (old s))
    (old s)
bounded_after log line _ reply range h old s start = old s

bounded : (log : Journal) → IsLegal log → (s : ℕ) → AllByRecursion IsBounded (shards log s)
bounded [] legal s = tt
bounded (line ∷ log) legal s =
    bounded_after log line line.what legal.0.reply legal.0.in_range legal.0.allowed (bounded log legal.1) s
    (next_number (line ∷ log) s)

scalable : (log : Journal) → IsLegal log → (s : ℕ) → was_made log s ≡ true → IsScalable (shards log s)
scalable log legal s made =
    record { tiled = tiled log legal s made; bounded = bounded log legal s; numbered = numbered log s }

-- ---- An open shard of a live stream is listed

not_below : (floor : ℕ) (o : Option Closing) → is_none o ≡ true → was_closed_below floor o ≡ false
not_below floor None h = refl
not_below floor (Some closing) h = absurd cc

listed_open : (log : Journal) (c s : ℕ) (o : Option ShardState) (x : ShardState) → o ≡ Some x → is_live log s ≡ true
    → is_open x ≡ true → is_listed_state log c s o ≡ true
listed_open log c s o x there live open_now =
    ap (is_listed_state log c s) there
    ∙ ap (λ r. not (not r || is_closed_below (trim_floor log c s) x)) live
    ∙ ap not (not_below (trim_floor log c s) x.closing open_now)

both_so : (a b : Bool) → a ≡ true → b ≡ true → not (a && b) ≡ false
both_so true true h g = refl
both_so true false h g = absurd cc
both_so false b h g = absurd cc

-- ---- A merge

join_line : Journal → ℕ → ℕ → ℕ → ℕ → Line
join_line log c actor s b = plain_line c actor (step_entry log s (Join b))

room_join : (last l n : ℕ) → n + 1 ≤ last → l + 1 ≤ last → (nat_lt last l || (n == last)) ≡ false
room_join last l n h g = grind (arith, nat_tests)

join_good : (log : Journal) (c actor s b : ℕ) → is_live log s ≡ true → Joins (shards log s) b
    → next_number log s + 1 ≤ last_number → length (shards log s) + 1 ≤ last_number → last_clock log ≤ c
    → IsGood log (join_line log c actor s b)
unfolding join_line
join_good log c actor s b live j more made order =
    let low = j.low_home in
    let high = j.high_home in
    let listed = both_so _ _ (listed_open log c s _ j.low low.stands live low.is_open_now)
    (listed_open log c s _ j.high high.stands live high.is_open_now) in
    let opens = both_so _ _ (ap is_open_at low.stands ∙ low.is_open_now) (ap is_open_at high.stands
    ∙ high.is_open_now) in
    let touch : are_adjacent (range_of (shard_at log s (home log s (b - 1)))) (range_of (shard_at log s (home log s b)))
    ≡ true =
    ap (λ o. are_adjacent (range_of o) (range_of (shard_at log s (home log s b)))) low.stands
    ∙ ap (λ o. are_adjacent j.low.range (range_of o)) high.stands
    ∙ joins_touch (shards log s) b j in
    record {
      in_order = order;
      in_range = tt;
      reply = replies.Done;
      allowed = in_live log s _ live
          ∙ passed_if refusal.NoShard _ _ listed
          ∙ passed_if refusal.ShardClosed _ _ opens
          ∙ passed_if refusal.NotAdjacent _ _ (ap not touch)
          ∙ passed_if refusal.Spent _ _ (room_join last_number (length (shards log s)) (next_number log s) more made);
    }

shards_join : (log : Journal) (c actor s b : ℕ)
    → shards (join_line log c actor s b ∷ log) s
    ≡ after_join (shards log s) b (record { number = next_number log s; clock = c })
    (next_number (join_line log c actor s b ∷ log) s)
unfolding join_line
shards_join log c actor s b =
    ap (λ r. if r then after_join (shards log s) b (record { number = next_number log s; clock = c })
    (next_number (join_line log c actor s b ∷ log) s) else shards log s) (is_itself s)

-- ---- A split

cut_line : Journal → ℕ → ℕ → ℕ → ℕ → Line
cut_line log c actor s b = plain_line c actor (step_entry log s (Cut b))

room_cut : (last l n : ℕ) → n + 1 ≤ last → l + 2 ≤ last → (nat_lt last (l + 1) || (n == last)) ≡ false
room_cut last l n h g = grind (arith, nat_tests)

not_full : (n : ℕ) → n < 500 → nat_le 500 n ≡ false
not_full n h = grind (arith, nat_tests)

cut_good : (log : Journal) (c actor s b : ℕ) → is_live log s ≡ true → Cuts (shards log s) b
    → open_count log < OPEN_SHARDS
    → next_number log s + 1 ≤ last_number → length (shards log s) + 2 ≤ last_number → last_clock log ≤ c
    → IsGood log (cut_line log c actor s b)
unfolding cut_line
cut_good log c actor s b live k few more made order =
    let hash = k.is_home in
    let inside : is_inside (range_of (shard_at log s (home log s b))) b ≡ true =
    ap (λ o. is_inside (range_of o) b) hash.stands ∙ k.inside in
    record {
      in_order = order;
      in_range = tt;
      reply = replies.Done;
      allowed = in_live log s _ live
          ∙ passed_if refusal.NoShard _ _ (ap not (listed_open log c s _ k.shard hash.stands live hash.is_open_now))
          ∙ passed_if refusal.ShardClosed _ _ (ap not (ap is_open_at hash.stands ∙ hash.is_open_now))
          ∙ passed_if refusal.BadSplit _ _ (ap not inside)
          ∙ passed_if refusal.Full _ _ (not_full (open_count log) few)
          ∙ passed_if refusal.Spent _ _ (room_cut last_number (length (shards log s)) (next_number log s) more made);
    }

shards_cut : (log : Journal) (c actor s b : ℕ)
    → shards (cut_line log c actor s b ∷ log) s
    ≡ after_cut (shards log s) b (record { number = next_number log s; clock = c })
    (next_number (cut_line log c actor s b ∷ log) s)
unfolding cut_line
shards_cut log c actor s b =
    ap (λ r. if r then after_cut (shards log s) b (record { number = next_number log s; clock = c })
    (next_number (cut_line log c actor s b ∷ log) s) else shards log s) (is_itself s)

-- ---- The open shards of the other streams

others : ℕ → List ℕ → List ℕ
others s ts = filter (λ t. not (t == s)) ts

same_by : (b : Bool) (log log' : Journal) (t : ℕ) (ts us : List ℕ) → (b ≡ true → shards log' t ≡ shards log t)
    → open_in log' us ≡ open_in log us
    → open_in log' (cond b (t ∷ us) us) ≡ open_in log (cond b (t ∷ us) us)
same_by true log log' t ts us h rest = omega (arith, rest, ap (λ xs. length (filter is_open xs)) (h refl))
same_by false log log' t ts us h rest = rest

elsewhere_in : (log log' : Journal) (s : ℕ) (ts : List ℕ)
    → ((t : ℕ) → not (t == s) ≡ true → shards log' t ≡ shards log t)
    → open_in log' (others s ts) ≡ open_in log (others s ts)
unfolding others
elsewhere_in log log' s [] h = refl
elsewhere_in log log' s (t ∷ ts) h =
    same_by (not (t == s)) log log' t ts (others s ts) (h t) (elsewhere_in log log' s ts h)

other_stream : (s t : ℕ) → not (t == s) ≡ true → (s == t) ≡ false
other_stream s t h = grind (arith, nat_tests)

elsewhere_join : (log : Journal) (c actor s b : ℕ) → open_elsewhere (join_line log c actor s b ∷ log) s
    ≡ open_elsewhere log s
unfolding join_line others
elsewhere_join log c actor s b =
    elsewhere_in log (join_line log c actor s b ∷ log) s (live_streams log)
    (λ t differ. ap (λ r.
    if r then merged_shards (home log s (b - 1)) (home log s b)
    (record { number = next_number log s; clock = c }) (next_number (join_line log c actor s b ∷ log) t)
    (shards log t) else shards log t) (other_stream s t differ))

elsewhere_cut : (log : Journal) (c actor s b : ℕ) → open_elsewhere (cut_line log c actor s b ∷ log) s
    ≡ open_elsewhere log s
unfolding cut_line others
elsewhere_cut log c actor s b =
    elsewhere_in log (cut_line log c actor s b ∷ log) s (live_streams log)
    (λ t differ. ap (λ r. if r then split_shards (home log s b) b (record { number = next_number log s; clock = c })
    (next_number (cut_line log c actor s b ∷ log) t) (shards log t) else shards log t) (other_stream s t differ))

beyond_by : (b d : Bool) (log : Journal) (t s : ℕ) (us : List ℕ) → not (t == s) ≡ d → d ≡ true
    → open_in log us ≡ open_in log (others s us)
    → open_in log (cond b (t ∷ us) us) ≡ open_in log (others s (cond b (t ∷ us) us))
unfolding others
beyond_by true true log t s us is differs rest =
    ap (λ n. length (open_shards log t) + n) rest
    ∙ ap (λ r. open_in log (cond r (t ∷ others s us) (others s us))) (sym is)
beyond_by true false log t s us is differs rest = absurd cc
beyond_by false d log t s us is differs rest = rest

pub apart_from : (t s : ℕ) → s < t → not (t == s) ≡ true
apart_from t s h = grind (arith, nat_tests)

beyond : (log : Journal) (s k n : ℕ) → s < k → open_in log (filter (is_live log) (numbers_from k n))
    ≡ open_in log (others s (filter (is_live log) (numbers_from k n)))
unfolding others
beyond log s k zero h = refl
beyond log s k (suc n) h =
    beyond_by (is_live log k) true log k s _ (apart_from k s h) refl (beyond log s (k + 1) n (omega arith))

one_by : (b d : Bool) (log : Journal) (t s : ℕ) (us : List ℕ) → not (t == s) ≡ d
    → (d ≡ true → open_in log us ≤ length (open_shards log s) + open_in log (others s us))
    → (d ≡ false → open_in log us ≡ open_in log (others s us)) → (d ≡ false → t ≡ s)
    → open_in log (cond b (t ∷ us) us) ≤ length (open_shards log s) + open_in log (others s (cond b (t ∷ us) us))
unfolding others
one_by true true log t s us is more alone same =
    omega (arith, more refl, ap (λ r. open_in log (cond r (t ∷ others s us) (others s us))) is)
one_by true false log t s us is more alone same =
    omega (
      arith,
      alone refl,
      ap (λ k. length (open_shards log k)) (same refl),
      ap (λ r. open_in log (cond r (t ∷ others s us) (others s us))) is,
    )
one_by false true log t s us is more alone same = more refl
one_by false false log t s us is more alone same = omega (arith, alone refl)

once : (log : Journal) (s k n : ℕ) → open_in log (filter (is_live log) (numbers_from k n)) ≤ length (open_shards log s)
    + open_in log (others s (filter (is_live log) (numbers_from k n)))
unfolding others
once log s k zero = omega arith
once log s k (suc n) =
    one_by (is_live log k) (not (k == s)) log k s _ refl
    (λ e. once log s (k + 1) n)
    (λ e. beyond log s (k + 1) n (omega (arith, equal_unless k s e)))
    (equal_unless k s)

open_bound : (log : Journal) (s : ℕ) → open_count log ≤ length (open_shards log s) + open_elsewhere log s
unfolding others
open_bound log s = once log s 1 (made_count log)

-- ---- The lines of the steps

cuts_length : (cs starts wanted : List ℕ) → LeadTo (map Cut cs) starts wanted
    → length starts + length cs ≡ length wanted
cuts_length [] starts wanted h = omega (arith, ap length h)
cuts_length (b ∷ cs) starts wanted h =
    omega (arith, cuts_length cs (with_start b starts) wanted h.1, length_with b starts)

adds_cuts : (cs starts wanted : List ℕ) (log : Journal) (c actor s : ℕ) → is_live log s ≡ true
    → IsScalable (shards log s)
    → open_starts (shards log s) ≡ starts
    → LeadTo (map Cut cs) starts wanted → AllByRecursion (λ b. b < 2 ^ 128) cs
    → open_elsewhere log s + length wanted ≤ OPEN_SHARDS
    → next_number log s + length (map Cut cs) ≤ last_number → length (shards log s) + made_by (map Cut cs) ≤ last_number
    → IsLegal log → last_clock log ≤ c → Adds log (step_lines log c actor s (map Cut cs)) c
unfolding cut_line
adds_cuts [] starts wanted log c actor s live ok is lead below room more made legal order =
    record { legal = legal; clock = order }
adds_cuts (b ∷ cs) starts wanted log c actor s live ok is lead below room more made legal order =
    let line = cut_line log c actor s b in
    let absent = ap (λ xs. is_start xs b) is ∙ lead.0 in
    let k = cuts (shards log s) b ok below.0 absent in
    let few : open_count log < OPEN_SHARDS =
    omega (
      arith,
      open_bound log s,
      room,
      cuts_length cs (with_start b starts) wanted lead.1,
      length_with b starts,
      ap length is,
      length_starts (open_shards log s),
    ) in
    let good = cut_good log c actor s b live k few (omega arith) (omega arith) order in
    let next_shards = shards_cut log c actor s b in
    let rest = adds_cuts cs (with_start b starts) wanted (line ∷ log) c actor s live
    (subst IsScalable (sym next_shards) (scalable_cut (shards log s) b _ _ ok below.0 k))
    (ap open_starts next_shards ∙ starts_cut (shards log s) b _ _ ok absent k ∙ ap (with_start b) is)
    lead.1 below.1
    (omega (arith, room, elsewhere_cut log c actor s b))
    (omega (arith, more, draws_one s (next_number log s) (next_number log s) refl))
    (omega (arith, made, ap length next_shards ∙ length_split _ b _ _ (shards log s)))
    (good, legal) (omega arith) in
    record { legal = rest.legal; clock = rest.clock }

adds_joins : (bs cs starts wanted : List ℕ) (log : Journal) (c actor s : ℕ) → is_live log s ≡ true
    → IsScalable (shards log s) → open_starts (shards log s) ≡ starts
    → LeadTo (map Join bs ++ map Cut cs) starts wanted → AllByRecursion (λ b. b < 2 ^ 128) cs
    → open_elsewhere log s + length wanted ≤ OPEN_SHARDS
    → next_number log s + length (map Join bs ++ map Cut cs) ≤ last_number
    → length (shards log s) + made_by (map Join bs ++ map Cut cs) ≤ last_number
    → IsLegal log → last_clock log ≤ c → Adds log (step_lines log c actor s (map Join bs ++ map Cut cs)) c
unfolding join_line
adds_joins [] cs starts wanted log c actor s live ok is lead below room more made legal order =
    adds_cuts cs starts wanted log c actor s live ok is lead below room more made legal order
adds_joins (b ∷ bs) cs starts wanted log c actor s live ok is lead below room more made legal order =
    let line = join_line log c actor s b in
    let j = joins (shards log s) b ok lead.0.0 (ap (λ xs. is_start xs b) is ∙ lead.0.1) in
    let good = join_good log c actor s b live j (omega arith) (omega arith) order in
    let next_shards = shards_join log c actor s b in
    let rest = adds_joins bs cs (without b starts) wanted (line ∷ log) c actor s live
    (subst IsScalable (sym next_shards) (scalable_joined (shards log s) b _ _ ok j))
    (ap open_starts next_shards ∙ starts_joined (shards log s) b _ _ ok lead.0.0 j ∙ ap (without b) is)
    lead.1 below
    (omega (arith, room, elsewhere_join log c actor s b))
    (omega (arith, more, draws_one s (next_number log s) (next_number log s) refl))
    (omega (arith, made, ap length next_shards ∙ length_merged _ _ _ _ (shards log s)))
    (good, legal) (omega arith) in
    record { legal = rest.legal; clock = rest.clock }

filtered : (p : ℕ → Bool) (xs : List ℕ) → AllByRecursion (λ b. b < 2 ^ 128) xs
    → AllByRecursion (λ b. b < 2 ^ 128) (filter p xs)
filtered p [] h = tt
filtered p (x ∷ xs) h = kept (p x) x (filter p xs) h.0 (filtered p xs h.1)
  where
    kept : (b : Bool) (x : ℕ) (ys : List ℕ) → x < 2 ^ 128 → AllByRecursion (λ b. b < 2 ^ 128) ys
        → AllByRecursion (λ b. b < 2 ^ 128) (cond b (x ∷ ys) ys)
    kept true x ys h g = (h, g)
    kept false x ys h g = g

-- A scaling within its limits leaves a legal journal legal.
pub adds_scaling : (log : Journal) (c actor s target : ℕ) → is_live log s ≡ true → 1 ≤ target → target ≤ 500
    → open_elsewhere log s + target ≤ OPEN_SHARDS
    → next_number log s + length (steps_to log s target) ≤ last_number
    → length (shards log s) + made_by (steps_to log s target) ≤ last_number
    → IsLegal log → last_clock log ≤ c → Adds log (step_lines log c actor s (steps_to log s target)) c
adds_scaling log c actor s target live least most room more made legal order =
    let ok = scalable log legal s (made_if_live log s live) in
    let starts = open_starts (shards log s) in
    let wanted = uniform_starts target in
    adds_joins (left_out wanted starts) (left_out starts wanted) starts wanted log c actor s live ok refl
    (leads starts wanted (rise_open (shards log s) ok) (rise_wanted target least most) (wanted_zero target least))
    (filtered _ wanted (below_wanted target least most))
    (omega (arith, room, length_wanted target)) more made legal order
