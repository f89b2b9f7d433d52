-- After a split or a merge, the stream shows the journal with its line and keeps its invariant.
use Rattle.std.proofs.Common.{◌≡◌, ◌≢◌, ℕ, zero, suc, ◌+◌, ◌^◌, ◌<◌, ◌≤◌, Bool, List, [], ◌∷◌, ◌++◌, length, None}
use Rattle.std.proofs.Common.{refl, sym, ap, subst, ◌∙◌, arith, length-append}
use Rattle.std.specs.Prelude.{◌==◌, Ok}
use Rattle.std.specs.List.{AllByRecursion, filter}
use Rattle.kds_base.proofs.Facts.{is_itself, chosen, all_weaker, all_append}
use Rattle.kds_defs.proofs.Elsewhere.{floor_same}
use Rattle.kds_defs.proofs.Decisions.{after_accepted}
use Rattle.kds_defs.specs.declared.limits.TheConstants.{OPEN_SHARDS}
use Rattle.kds_defs.specs.declared.reply.Reply.TheVariants as reply
use Rattle.kds_defs.specs.Decision.{Accepted}
use Rattle.kds_defs.specs.Histories.{answer_of, lines_of}
use Rattle.kds_defs.specs.Journal.{Journal, Line, with_lines}
use Rattle.kds_defs.specs.PutCommands.{is_enforced}
use Rattle.kds_defs.specs.Rates.{puts}
use Rattle.kds_defs.specs.Records.{left_among, next_number, records}
use Rattle.kds_defs.specs.Shards.{Closing, ShardState, is_open, merged_shards, shards, split_shards, with_closed}
use Rattle.kds_defs.specs.StreamCommands.{last_number, merge, split_where}
use Rattle.kds_defs.specs.Streams.{floor_of, hours, is_live, made_at, name_of, was_made}
use Rattle.kds_defs.proofs.Counted.{length_split, length_merged}
use Rattle.kds_log.specs.Log.{LogValue}
use Rattle.kds_rate.specs.Windows.{WindowValue}
use Rattle.kds_stream.proofs.LogLemmas.{arrived_later, below_higher}
use Rattle.kds_stream.proofs.Opens.{few_merged, few_split}
use Rattle.kds_stream.proofs.Others.{kept_along}
use Rattle.kds_stream.proofs.Puts.{ends_later, one_free, one_more}
use Rattle.kds_stream_logs.proofs.Rates.{stand_along}
use Rattle.kds_stream.proofs.Rates.{rated_more, stand_more}
use Rattle.kds_stream_logs.specs.Rating.{IsUnused}
use Rattle.kds_stream.specs.Showing.{AreKept, Shows, merge_line, split_line}
use Rattle.kds_stream_logs.specs.Logs.{HasArrived, IsBelow, empty_log}
use Rattle.kds_stream.specs.Value.{EndsUnder, IsStream, StreamValue}
use Rattle.kds_tree.specs.Tree.{merge_refusal, split_refusal}

-- ---- The shards after a split or a merge

ends_closed : (next sh : ℕ) (closing : Closing) (xs : List ShardState) → closing.number < next
    → AllByRecursion (EndsUnder next) xs → AllByRecursion (EndsUnder next) (with_closed sh closing xs)
ends_closed next sh closing [] below h = tt
ends_closed next zero closing (x ∷ xs) below h = (below, h.1)
ends_closed next (suc sh) closing (x ∷ xs) below h = (h.0, ends_closed next sh closing xs below h.1)

pub ends_split : (next sh hash start : ℕ) (closing : Closing) (xs : List ShardState) → closing.number < next
    → AllByRecursion (EndsUnder next) xs → AllByRecursion (EndsUnder next) (split_shards sh hash closing start xs)
ends_split next sh hash start closing xs below h =
    all_append (EndsUnder next) (with_closed sh closing xs) _ (ends_closed next sh closing xs below h) (tt, (tt, tt))

pub ends_merged : (next sh other start : ℕ) (closing : Closing) (xs : List ShardState) → closing.number < next
    → AllByRecursion (EndsUnder next) xs → AllByRecursion (EndsUnder next) (merged_shards sh other closing start xs)
ends_merged next sh other start closing xs below h =
    all_append (EndsUnder next) (with_closed other closing (with_closed sh closing xs)) _
    (ends_closed next other closing (with_closed sh closing xs) below (ends_closed next sh closing xs below h)) (
      tt,
      tt,
    )

-- ---- The logs after a split or a merge

kept_empty : (floor : ℕ) (log : Journal) (s n : ℕ) (new : List LogValue) → AllByRecursion (λ l. l ≡ empty_log) new
    → ((sh : ℕ) → n ≤ sh → records log s sh ≡ []) → AreKept floor log s n new
kept_empty floor log s n [] h none = tt
kept_empty floor log s n (l ∷ ls) h none = (
  record {
    from = 0;
    early = omega arith;
    rest = ap (λ (x : LogValue). x.kept) h.0 ∙ ap (left_among 0 0) (sym (none n (omega arith)));
  },
  kept_empty floor log s (n + 1) ls h.1 (λ sh beyond. none sh (omega arith)),
)

kept_grown : (floor : ℕ) (log : Journal) (s n : ℕ) (ls new : List LogValue) → AllByRecursion (λ l. l ≡ empty_log) new
    → ((sh : ℕ) → n + length ls ≤ sh → records log s sh ≡ []) → AreKept floor log s n ls
    → AreKept floor log s n (ls ++ new)
kept_grown floor log s n [] new h none kept =
    kept_empty floor log s n new h (λ sh beyond. none sh (omega arith))
kept_grown floor log s n (l ∷ ls) new h none kept =
    (kept.0, kept_grown floor log s (n + 1) ls new h (λ sh beyond. none sh (omega arith)) kept.1)

all_empty : (P : LogValue → Type 0) (new : List LogValue) → P empty_log → AllByRecursion (λ l. l ≡ empty_log) new
    → AllByRecursion P new
all_empty P new p h = all_weaker (λ l. l ≡ empty_log) P (λ l is. subst P (sym is) p) new h

-- ---- The stream after a split or a merge

-- A stream keeps its invariant with a larger tree, and an empty log and an unused window for each new shard.
pub stream_grown : (v : StreamValue) (tree : List ShardState) (new : List LogValue) (ws : List WindowValue) (next : ℕ)
    → v.next ≤ next → next < 2 ^ 64
    → AllByRecursion (λ l. l ≡ empty_log) new → AllByRecursion IsUnused ws → length ws ≡ length new
    → length tree ≡ length v.tree + length new
    → length (filter is_open tree) ≤ OPEN_SHARDS → AllByRecursion (EndsUnder next) tree → IsStream v
    → IsStream (record v {
      tree = tree;
      logs = v.logs ++ new;
      windows = v.windows ++ ws;
      next = next;
      clock_before = v.clock;
      cut_before = v.cut;
    })
stream_grown v tree new ws next more within empty unused beside grown few ends is = record {
  as_many = omega (arith, length-append v.logs new, is.as_many, grown);
  few = few;
  lasting = is.lasting;
  numbers = all_append (IsBelow next) v.logs new (below_higher v.next next v.logs more is.numbers)
      (all_empty (IsBelow next) new tt empty);
  endings = ends;
  arrivals = all_append (HasArrived v.clock) v.logs new
      (arrived_later v.clock_before v.clock v.logs is.order is.arrivals) (all_empty (HasArrived v.clock) new tt empty);
  order = omega arith;
  trims = is.trims;
  trims_before = is.trims;
  rated = rated_more v.clock_before v.clock (length v.tree) (length tree) v.windows ws is.order
      (omega arith) unused is.rated;
  drawn = omega (arith, more, is.drawn);
  fits = within;
}

shows_grown : (v : StreamValue) (log : Journal) (line : Line) (tree : List ShardState) (new : List LogValue)
    (ws : List WindowValue) (next : ℕ) → line.clock ≡ v.clock → is_live (line ∷ log) v.no ≡ is_live log v.no
    → was_made (line ∷ log) v.no ≡ was_made log v.no → name_of (line ∷ log) v.no ≡ name_of log v.no
    → made_at (line ∷ log) v.no ≡ made_at log v.no → hours (line ∷ log) v.no ≡ hours log v.no
    → is_enforced (line ∷ log) v.no ≡ is_enforced log v.no
    → ((sh : ℕ) → records (line ∷ log) v.no sh ≡ records log v.no sh)
    → ((sh : ℕ) → puts (line ∷ log) v.no sh ≡ puts log v.no sh) → shards (line ∷ log) v.no ≡ tree
    → next_number (line ∷ log) v.no ≡ next → AllByRecursion (λ l. l ≡ empty_log) new → AllByRecursion IsUnused ws
    → length tree ≡ length v.tree + length new → length v.logs ≡ length v.tree → length v.windows ≡ length v.tree
    → Shows v log
    → Shows (record v {
      tree = tree;
      logs = v.logs ++ new;
      windows = v.windows ++ ws;
      next = next;
      clock_before = v.clock;
      cut_before = v.cut;
    }) (line ∷ log)
shows_grown v log line tree new ws next is_at live was named made lasts enforces same same_puts shards_are next_is empty
    unused grown as_many as_wide show = record {
      stored = record {
        live = live ∙ show.stored.live;
        was = was ∙ show.stored.was;
        named = named ∙ show.stored.named;
        made_is = made ∙ show.stored.made_is;
        hours_are = lasts ∙ show.stored.hours_are;
        shards_are = shards_are;
        next_is = next_is;
        floor_is = floor_same log line v.no v.clock (omega arith) lasts ∙ show.stored.floor_is;
        kept =
            kept_along (floor_of v.cut) log (line ∷ log) v.no 0 (v.logs ++ new) same
            (kept_grown (floor_of v.cut) log v.no 0 v.logs new empty
            (λ sh beyond. show.stored.none_beyond sh (omega arith)) show.stored.kept);
        none_beyond = λ sh beyond. same sh ∙ show.stored.none_beyond sh (omega arith);
      };
      rates =
          record {
            enforced_is = enforces ∙ show.rates.enforced_is;
            stand =
                stand_along (puts log v.no) (puts (line ∷ log) v.no) 0 (v.windows ++ ws) (λ sh any. sym (same_puts sh))
                (stand_more (puts log v.no) 0 v.windows ws unused
                (λ sh beyond. show.rates.none_beyond sh (omega arith)) show.rates.stand);
            none_beyond = λ sh beyond. same_puts sh ∙ show.rates.none_beyond sh (omega arith);
          };
    }

module _ (v : StreamValue) (log : Journal) (actor : ℕ) (show : Shows v log) (as_many : length v.logs ≡ length v.tree)
    (as_wide : length v.windows ≡ length v.tree) where
  -- After a split, with two empty logs and unused windows, the stream shows the journal with its line.
  pub shows_split : (sh hash next : ℕ) (tree : List ShardState) (logs : List LogValue) (windows ws : List WindowValue)
      → next ≡ v.next + 1 → tree ≡ split_shards sh hash (record { number = v.next; clock = v.clock }) (v.next + 1)
      v.tree
      → logs ≡ v.logs ++ (empty_log ∷ empty_log ∷ []) → windows ≡ v.windows ++ ws → AllByRecursion IsUnused ws
      → Shows (record v {
        tree = tree;
        logs = logs;
        windows = windows;
        next = next;
        clock_before = v.clock;
        cut_before = v.cut;
      }) (split_line log v.clock actor v.no sh hash ∷ log)
  shows_split sh hash next tree logs windows ws drawn tree_is logs_are windows_are unused =
      let more : next_number (split_line log v.clock actor v.no sh hash ∷ log) v.no ≡ v.next + 1 =
      one_more (v.no == v.no) (next_number log v.no) v.next (is_itself v.no) show.stored.next_is in
      let after : shards (split_line log v.clock actor v.no sh hash ∷ log) v.no ≡ tree =
      chosen (v.no == v.no) _ (shards log v.no) (is_itself v.no)
      ∙ ap (λ n. split_shards sh hash (record { number = n; clock = v.clock })
      (next_number (split_line log v.clock actor v.no sh hash ∷ log) v.no)
      (shards log v.no)) show.stored.next_is
      ∙ ap (λ n. split_shards sh hash (record { number = v.next; clock = v.clock }) n (shards log v.no)) more
      ∙ ap (split_shards sh hash (record { number = v.next; clock = v.clock }) (v.next + 1)) show.stored.shards_are
      ∙ sym tree_is in
      subst (λ (us : List WindowValue).
      Shows (record v {
        tree = tree;
        logs = logs;
        windows = us;
        next = next;
        clock_before = v.clock;
        cut_before = v.cut;
      }) (split_line log v.clock actor v.no sh hash ∷ log)) (sym windows_are)
      (subst (λ (ls : List LogValue).
      Shows (record v {
        tree = tree;
        logs = ls;
        windows = v.windows ++ ws;
        next = next;
        clock_before = v.clock;
        cut_before = v.cut;
      }) (split_line log v.clock actor v.no sh hash ∷ log)) (sym logs_are)
      (shows_grown v log (split_line log v.clock actor v.no sh hash) tree (empty_log ∷ empty_log ∷ []) ws next refl refl
      refl
      refl refl refl refl (λ n. refl) (λ n. refl) after (more ∙ sym drawn) (refl, (refl, tt)) unused
      (ap length tree_is ∙ length_split sh hash (v.next + 1) (record { number = v.next; clock = v.clock }) v.tree)
      as_many as_wide show))

  -- After a merge, with an empty log and an unused window, the stream shows the journal with its line.
  pub shows_merged : (sh other next : ℕ) (tree : List ShardState) (logs : List LogValue) (windows ws : List WindowValue)
      → next ≡ v.next + 1 → tree ≡ merged_shards sh other (record { number = v.next; clock = v.clock }) (v.next + 1)
      v.tree → logs ≡ v.logs ++ (empty_log ∷ []) → windows ≡ v.windows ++ ws → AllByRecursion IsUnused ws
      → Shows (record v {
        tree = tree;
        logs = logs;
        windows = windows;
        next = next;
        clock_before = v.clock;
        cut_before = v.cut;
      }) (merge_line log v.clock actor v.no sh other ∷ log)
  shows_merged sh other next tree logs windows ws drawn tree_is logs_are windows_are unused =
      let more : next_number (merge_line log v.clock actor v.no sh other ∷ log) v.no ≡ v.next + 1 =
      one_more (v.no == v.no) (next_number log v.no) v.next (is_itself v.no) show.stored.next_is in
      let after : shards (merge_line log v.clock actor v.no sh other ∷ log) v.no ≡ tree =
      chosen (v.no == v.no) _ (shards log v.no) (is_itself v.no)
      ∙ ap (λ n. merged_shards sh other (record { number = n; clock = v.clock })
      (next_number (merge_line log v.clock actor v.no sh other ∷ log) v.no)
      (shards log v.no)) show.stored.next_is
      ∙ ap (λ n. merged_shards sh other (record { number = v.next; clock = v.clock }) n (shards log v.no)) more
      ∙ ap (merged_shards sh other (record { number = v.next; clock = v.clock }) (v.next + 1)) show.stored.shards_are
      ∙ sym tree_is in
      subst (λ (us : List WindowValue).
      Shows (record v {
        tree = tree;
        logs = logs;
        windows = us;
        next = next;
        clock_before = v.clock;
        cut_before = v.cut;
      }) (merge_line log v.clock actor v.no sh other ∷ log)) (sym windows_are)
      (subst (λ (ls : List LogValue).
      Shows (record v {
        tree = tree;
        logs = ls;
        windows = v.windows ++ ws;
        next = next;
        clock_before = v.clock;
        cut_before = v.cut;
      }) (merge_line log v.clock actor v.no sh other ∷ log)) (sym logs_are)
      (shows_grown v log (merge_line log v.clock actor v.no sh other) tree (empty_log ∷ []) ws next refl refl refl refl
      refl refl refl (λ n. refl) (λ n. refl) after (more ∙ sym drawn) (refl, tt) unused
      (ap length tree_is ∙ length_merged sh other (v.next + 1) (record { number = v.next; clock = v.clock }) v.tree)
      as_many as_wide show))

pub stream_split : (v : StreamValue) (sh hash next : ℕ) (tree : List ShardState) (logs : List LogValue)
    (windows ws : List WindowValue) → next ≡ v.next + 1 → v.next ≢ last_number
    → length (filter is_open v.tree) < OPEN_SHARDS → split_refusal v.tree sh hash ≡ None
    → tree ≡ split_shards sh hash (record { number = v.next; clock = v.clock }) (v.next + 1) v.tree
    → logs ≡ v.logs ++ (empty_log ∷ empty_log ∷ []) → windows ≡ v.windows ++ ws → AllByRecursion IsUnused ws
    → length ws ≡ length (empty_log ∷ empty_log ∷ []) → IsStream v
    → IsStream (record v {
      tree = tree;
      logs = logs;
      windows = windows;
      next = next;
      clock_before = v.clock;
      cut_before = v.cut;
    })
stream_split v sh hash next tree logs windows ws drawn free few passes tree_is logs_are windows_are unused beside is =
    let how : Closing = record { number = v.next; clock = v.clock } in
    subst (λ (us : List WindowValue).
    IsStream (record v {
      tree = tree;
      logs = logs;
      windows = us;
      next = next;
      clock_before = v.clock;
      cut_before = v.cut;
    })) (sym windows_are)
    (subst (λ (ls : List LogValue).
    IsStream (record v {
      tree = tree;
      logs = ls;
      windows = v.windows ++ ws;
      next = next;
      clock_before = v.clock;
      cut_before = v.cut;
    })) (sym logs_are)
    (stream_grown v tree (empty_log ∷ empty_log ∷ []) ws next (omega arith)
    (one_free v.next next drawn free is.fits) (refl, (refl, tt)) unused beside
    (ap length tree_is ∙ length_split sh hash (v.next + 1) how v.tree)
    (subst (λ (xs : List ShardState). length (filter is_open xs) ≤ OPEN_SHARDS) (sym tree_is)
    (few_split v.tree sh hash (v.next + 1) how few passes))
    (subst (AllByRecursion (EndsUnder next)) (sym tree_is)
    (ends_split next sh hash (v.next + 1) how v.tree (omega arith)
    (ends_later v.next next v.tree (omega arith) is.endings))) is))

pub stream_merged : (v : StreamValue) (sh other next : ℕ) (tree : List ShardState) (logs : List LogValue)
    (windows ws : List WindowValue) → next ≡ v.next + 1 → v.next ≢ last_number → merge_refusal v.tree sh other ≡ None
    → tree ≡ merged_shards sh other (record { number = v.next; clock = v.clock }) (v.next + 1) v.tree
    → logs ≡ v.logs ++ (empty_log ∷ []) → windows ≡ v.windows ++ ws → AllByRecursion IsUnused ws
    → length ws ≡ length (empty_log ∷ []) → IsStream v
    → IsStream (record v {
      tree = tree;
      logs = logs;
      windows = windows;
      next = next;
      clock_before = v.clock;
      cut_before = v.cut;
    })
stream_merged v sh other next tree logs windows ws drawn free passes tree_is logs_are windows_are unused beside is =
    let how : Closing = record { number = v.next; clock = v.clock } in
    subst (λ (us : List WindowValue).
    IsStream (record v {
      tree = tree;
      logs = logs;
      windows = us;
      next = next;
      clock_before = v.clock;
      cut_before = v.cut;
    })) (sym windows_are)
    (subst (λ (ls : List LogValue).
    IsStream (record v {
      tree = tree;
      logs = ls;
      windows = v.windows ++ ws;
      next = next;
      clock_before = v.clock;
      cut_before = v.cut;
    })) (sym logs_are)
    (stream_grown v tree (empty_log ∷ []) ws next (omega arith) (one_free v.next next drawn free is.fits)
    (refl, tt) unused beside
    (ap length tree_is ∙ length_merged sh other (v.next + 1) how v.tree)
    (subst (λ (xs : List ShardState). length (filter is_open xs) ≤ OPEN_SHARDS) (sym tree_is)
    (few_merged v.tree sh other (v.next + 1) how is.few passes))
    (subst (AllByRecursion (EndsUnder next)) (sym tree_is)
    (ends_merged next sh other (v.next + 1) how v.tree (omega arith)
    (ends_later v.next next v.tree (omega arith) is.endings))) is))

-- ---- The answers to an accepted SplitShard and MergeShards

pub split_done : (u v w : StreamValue) (full : Bool) (log : Journal) (actor sh hash : ℕ) → v ≡ u
    → split_where full log u.clock actor u.no sh hash
    ≡ Accepted (split_line log u.clock actor u.no sh hash ∷ []) reply.Done
    → Shows w (split_line log v.clock actor v.no sh hash ∷ log)
    → (Ok reply.Done ≡ answer_of (split_where full log u.clock actor u.no sh hash))
    × Shows w (with_lines (lines_of (split_where full log u.clock actor u.no sh hash)) log)
split_done u v w full log actor sh hash same is shows =
    after_accepted (split_where full log u.clock actor u.no sh hash) (split_line log u.clock actor u.no sh hash ∷ [])
    reply.Done log (λ l. Shows w l) is
    (subst (λ (x : StreamValue). Shows w (split_line log x.clock actor x.no sh hash ∷ log)) same shows)

pub merge_done : (u v w : StreamValue) (log : Journal) (actor sh other : ℕ) → v ≡ u
    → merge log u.clock actor u.no sh other ≡ Accepted (merge_line log u.clock actor u.no sh other ∷ []) reply.Done
    → Shows w (merge_line log v.clock actor v.no sh other ∷ log)
    → (Ok reply.Done ≡ answer_of (merge log u.clock actor u.no sh other))
    × Shows w (with_lines (lines_of (merge log u.clock actor u.no sh other)) log)
merge_done u v w log actor sh other same is shows =
    after_accepted (merge log u.clock actor u.no sh other) (merge_line log u.clock actor u.no sh other ∷ [])
    reply.Done log
    (λ l. Shows w l) is (subst (λ (x : StreamValue). Shows w (merge_line log x.clock actor x.no sh other ∷ log))
    same shows)
