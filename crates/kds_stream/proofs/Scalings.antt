-- UpdateShardCount: its answer, what the stream shows after it, and its invariant.
use Rattle.std.proofs.Common.{◌≡◌, ℕ, suc, ◌+◌, ◌-◌, ◌/◌, ◌^◌, ◌<◌, ◌≤◌, Bool, true, false, List, [], ◌∷◌, ◌++◌}
use Rattle.std.proofs.Common.{length, map, refl, sym, ap, subst, ◌∙◌, arith, length-append}
use Rattle.std.specs.Prelude.{cond, nat_lt, not, ◌||◌, if◌then◌else◌, replicate, Ok, Err}
use Rattle.std.proofs.lemmas.Bool.Decides.{nat_tests}
use Rattle.std.specs.List.{AllByRecursion, filter}
use Rattle.std.proofs.lemmas.List.{append_assoc, append-nil, length-replicate}
use Rattle.kds_defs.proofs.Decisions.{after_accepted, after_refused, passed_if, refused_if}
use Rattle.kds_defs.specs.declared.entry.Entry.{Entry}
use Rattle.kds_defs.specs.declared.entry.Entry.TheVariants as entry
use Rattle.kds_defs.specs.declared.limits.TheConstants.{OPEN_SHARDS}
use Rattle.kds_defs.specs.declared.reply.Refusal.TheVariants as refusal
use Rattle.kds_defs.specs.declared.reply.Reply.TheVariants as reply
use Rattle.kds_defs.specs.declared.scale.ScaleStep.{ScaleStep}
use Rattle.kds_defs.specs.declared.scale.ScaleStep.TheVariants.{Join, Cut}
use Rattle.kds_defs.specs.Histories.{answer_of, lines_of}
use Rattle.kds_defs.specs.Journal.{Journal, Line, plain_line, with_lines}
use Rattle.kds_defs.specs.Records.{next_number}
use Rattle.kds_base.proofs.Facts.{neither_left}
use Rattle.kds_defs.specs.Scaling.{apart, is_start, scale, uniform_starts}
use Rattle.kds_defs.specs.ScaleCommands.{made_by, step_entry, step_lines, steps_to}
use Rattle.kds_defs.specs.Shards.{ShardState, is_open, shards}
use Rattle.kds_defs.specs.StreamCommands.{last_number}
use Rattle.kds_defs.proofs.Counted.{length_split, length_merged}
use Rattle.kds_log.specs.Log.{LogValue}
use Rattle.kds_rate.specs.Windows.{WindowValue}
use Rattle.kds_stream.proofs.NewStreams.{all_replicate}
use Rattle.kds_stream.proofs.Puts.{ends_later}
use Rattle.kds_stream.proofs.Resharded.{ends_merged, ends_split, shows_merged, shows_split, stream_grown}
use Rattle.kds_stream_logs.specs.Rating.{IsUnused}
use Rattle.kds_stream.specs.Showing.{Shows, merge_line, split_line}
use Rattle.kds_stream_logs.specs.Steps.{entries_in, home_in, scaled, starts_in, stepped}
use Rattle.kds_stream.specs.Steps.{are_spent, scale_where}
use Rattle.kds_stream_logs.specs.Logs.{empty_log}
use Rattle.kds_stream.specs.Value.{EndsUnder, IsStream, StreamValue}
use Rattle.kds_scale.proofs.Partitions.{length_wanted, length_starts}

-- ---- The shards after the steps

pub length_scaled : (steps : List ScaleStep) (n c : ℕ) (xs : List ShardState)
    → length (scaled steps n c xs) ≡ length xs + made_by steps
length_scaled [] n c xs = omega arith
length_scaled (Join b ∷ steps) n c xs =
    omega (
      arith,
      length_scaled steps (n + 1) c (stepped (Join b) n c xs),
      length_merged (home_in xs (b - 1)) (home_in xs b) (n + 1) (record { number = n; clock = c }) xs,
    )
length_scaled (Cut b ∷ steps) n c xs =
    omega (
      arith,
      length_scaled steps (n + 1) c (stepped (Cut b) n c xs),
      length_split (home_in xs b) b (n + 1) (record { number = n; clock = c }) xs,
    )

ends_scaled : (steps : List ScaleStep) (n c next : ℕ) (xs : List ShardState) → n + length steps ≤ next
    → AllByRecursion (EndsUnder next) xs → AllByRecursion (EndsUnder next) (scaled steps n c xs)
ends_scaled [] n c next xs le h = h
ends_scaled (Join b ∷ steps) n c next xs le h =
    ends_scaled steps (n + 1) c next (stepped (Join b) n c xs) (omega arith)
    (ends_merged next (home_in xs (b - 1)) (home_in xs b) (n + 1) (record { number = n; clock = c }) xs
    (omega arith) h)
ends_scaled (Cut b ∷ steps) n c next xs le h =
    ends_scaled steps (n + 1) c next (stepped (Cut b) n c xs) (omega arith)
    (ends_split next (home_in xs b) b (n + 1) (record { number = n; clock = c }) xs (omega arith) h)

-- ---- The stream's invariant after the steps

-- A stream keeps its invariant after the steps, with an empty log and an unused window for each new shard.
pub stream_scaled : (v : StreamValue) (steps : List ScaleStep) (tree : List ShardState) (logs : List LogValue)
    (windows ws : List WindowValue) (next : ℕ) → tree ≡ scaled steps v.next v.clock v.tree
    → length (filter is_open tree) ≤ OPEN_SHARDS → next ≡ v.next + length steps → next < 2 ^ 64
    → logs ≡ v.logs ++ replicate (made_by steps) empty_log → windows ≡ v.windows ++ ws → AllByRecursion IsUnused ws
    → length ws ≡ made_by steps → IsStream v
    → IsStream (record v {
      tree = tree;
      logs = logs;
      windows = windows;
      next = next;
      clock_before = v.clock;
      cut_before = v.cut;
    })
stream_scaled v steps tree logs windows ws next tree_is few drawn fits logs_are windows_are unused many is =
    let grown : length tree ≡ length v.tree + made_by steps =
    ap length tree_is ∙ length_scaled steps v.next v.clock v.tree in
    let new : List LogValue = replicate (made_by steps) empty_log in
    let as_long : length new ≡ made_by steps = length-replicate (made_by steps) empty_log in
    let ends : AllByRecursion (EndsUnder next) (scaled steps v.next v.clock v.tree) =
    ends_scaled steps v.next v.clock next v.tree (omega arith)
    (ends_later v.next next v.tree (omega arith) is.endings) in
    subst (λ (us : List WindowValue).
    IsStream (record v {
      tree = tree;
      logs = logs;
      windows = us;
      next = next;
      clock_before = v.clock;
      cut_before = v.cut;
    }))
    (sym windows_are)
    (subst (λ (ls : List LogValue).
    IsStream (record v {
      tree = tree;
      logs = ls;
      windows = v.windows ++ ws;
      next = next;
      clock_before = v.clock;
      cut_before = v.cut;
    })) (sym logs_are)
    (stream_grown v tree new ws next (omega arith) fits
    (all_replicate (λ l. l ≡ empty_log) (made_by steps) empty_log refl) unused (many ∙ sym as_long)
    (omega arith) few (subst (AllByRecursion (EndsUnder next)) (sym tree_is) ends) is))

-- ---- What the stream shows after the steps

-- After the steps, the stream shows the journal with their lines, whose entries it computes itself.
pub record ScalesSo (v : StreamValue) (log : Journal) (actor : ℕ) (steps : List ScaleStep) (ws : List WindowValue) :
    Type 0 where
  pub shows : (next : ℕ) → next ≡ v.next + length steps
      → Shows (record v {
        tree = scaled steps v.next v.clock v.tree;
        logs = v.logs ++ replicate (made_by steps) empty_log;
        windows = v.windows ++ ws;
        next = next;
        clock_before =
            v.clock;
        cut_before = v.cut;
      }) (with_lines (step_lines log v.clock actor v.no steps) log)
  pub entries_are : map (λ line. line.what) (step_lines log v.clock actor v.no steps)
      ≡ entries_in v.no steps v.next v.clock v.tree

shows_unscaled : (v : StreamValue) (log : Journal) (logs : List LogValue) (windows : List WindowValue) (next : ℕ)
    → logs ≡ v.logs → windows ≡ v.windows → next ≡ v.next → Shows v log
    → Shows (record v { logs = logs; windows = windows; next = next; clock_before = v.clock; cut_before = v.cut }) log
shows_unscaled v log logs windows next logs_are windows_are drawn show =
    subst (λ (n : ℕ). Shows (record v {
      logs = logs;
      windows = windows;
      next = n;
      clock_before = v.clock;
      cut_before = v.cut;
    }) log) (sym drawn)
    (subst (λ (us : List WindowValue).
    Shows (record v { logs = logs; windows = us; clock_before = v.clock; cut_before = v.cut }) log)
    (sym windows_are)
    (subst (λ (ls : List LogValue). Shows (record v { logs = ls; clock_before = v.clock; cut_before = v.cut }) log)
    (sym logs_are)
    (record { stored = show.stored; rates = show.rates })))

pub scales_so : (steps : List ScaleStep) (v : StreamValue) (log : Journal) (actor : ℕ) (ws : List WindowValue)
    → AllByRecursion IsUnused ws → length ws ≡ made_by steps → length v.logs ≡ length v.tree
    → length v.windows ≡ length v.tree → Shows v log → ScalesSo v log actor steps ws
scales_so [] v log actor [] unused many as_many as_wide show = record {
  shows = λ next drawn.
      shows_unscaled v log (v.logs ++ []) (v.windows ++ []) next (append-nil v.logs) (append-nil v.windows)
      (omega arith) show;
  entries_are = refl;
}
scales_so [] v log actor (w ∷ ws) unused many as_many as_wide show = absurd (omega arith)
scales_so (Join b ∷ steps) v log actor [] unused many as_many as_wide show = absurd (omega arith)
scales_so (Join b ∷ steps) v log actor (w ∷ ws) unused many as_many as_wide show =
    let sh : ℕ = home_in v.tree (b - 1) in
    let other : ℕ = home_in v.tree b in
    let tree : List ShardState = stepped (Join b) v.next v.clock v.tree in
    let line : Line = merge_line log v.clock actor v.no sh other in
    let after : StreamValue =
    record v {
      tree = tree;
      logs = v.logs ++ (empty_log ∷ []);
      windows = v.windows ++ (w ∷ []);
      next = v.next + 1;
      clock_before = v.clock;
      cut_before = v.cut;
    } in
    let same : plain_line v.clock actor (step_entry log v.no (Join b)) ≡ line =
    ap (λ xs. merge_line log v.clock actor v.no (home_in xs (b - 1)) (home_in xs b)) show.stored.shards_are in
    let grown = length_merged sh other (v.next + 1) (record { number = v.next; clock = v.clock }) v.tree in
    let rest : ScalesSo after (line ∷ log) actor steps ws =
    scales_so steps after (line ∷ log) actor ws unused.1 (omega arith)
    (omega (arith, length-append v.logs (empty_log ∷ []), as_many, grown))
    (omega (arith, length-append v.windows (w ∷ []), as_wide, grown))
    (shows_merged v log actor show as_many as_wide sh other (v.next + 1) tree (v.logs ++ (empty_log ∷ []))
    (v.windows ++ (w ∷ [])) (w ∷ []) refl refl refl refl (unused.0, tt)) in
    let one : 1 + made_by steps ≡ suc (made_by steps) = omega arith in
    record {
      shows = λ next drawn.
          subst (λ l. Shows (record v {
            tree = scaled steps (v.next + 1) v.clock tree;
            logs = v.logs ++ replicate (1 + made_by steps) empty_log;
            windows = v.windows ++ w ∷ ws;
            next =
                next;
            clock_before = v.clock;
            cut_before = v.cut;
          })
          (with_lines (step_lines (l ∷ log) v.clock actor v.no steps) (l ∷ log))) (sym same)
          (subst (λ ls. Shows (record v {
            tree = scaled steps (v.next + 1) v.clock tree;
            logs = ls;
            windows = v.windows ++ w ∷ ws;
            next = next;
            clock_before = v.clock;
            cut_before = v.cut;
          })
          (with_lines (step_lines (line ∷ log) v.clock actor v.no steps) (line ∷ log)))
          (append_assoc v.logs (empty_log ∷ []) (replicate (made_by steps) empty_log)
          ∙ ap (λ k. v.logs ++ replicate k empty_log) (sym one))
          (subst (λ us. Shows (record v {
            tree = scaled steps (v.next + 1) v.clock tree;
            logs = (v.logs ++ (empty_log ∷ [])) ++ replicate (made_by steps) empty_log;
            windows = us;
            next =
                next;
            clock_before = v.clock;
            cut_before = v.cut;
          })
          (with_lines (step_lines (line ∷ log) v.clock actor v.no steps) (line ∷ log)))
          (append_assoc v.windows (w ∷ []) ws) (rest.shows next (omega arith))));
      entries_are =
          ap (λ l. l.what ∷ map (λ k. k.what) (step_lines (l ∷ log) v.clock actor v.no steps)) same
          ∙ ap (λ n. entry.Merged v.no sh other n (length (shards log v.no)) ∷ map (λ k. k.what)
          (step_lines (line ∷ log) v.clock actor v.no steps)) show.stored.next_is
          ∙ ap (λ xs. entry.Merged v.no sh other v.next (length xs)
          ∷ map (λ k. k.what) (step_lines (line ∷ log) v.clock actor v.no steps)) show.stored.shards_are
          ∙ ap (λ es. entry.Merged v.no sh other v.next (length v.tree) ∷ es) rest.entries_are;
    }
scales_so (Cut b ∷ steps) v log actor [] unused many as_many as_wide show = absurd (omega arith)
scales_so (Cut b ∷ steps) v log actor (w ∷ []) unused many as_many as_wide show = absurd (omega arith)
scales_so (Cut b ∷ steps) v log actor (w ∷ u ∷ ws) unused many as_many as_wide show =
    let sh : ℕ = home_in v.tree b in
    let tree : List ShardState = stepped (Cut b) v.next v.clock v.tree in
    let line : Line = split_line log v.clock actor v.no sh b in
    let both : List LogValue = empty_log ∷ empty_log ∷ [] in
    let after : StreamValue =
    record v {
      tree = tree;
      logs = v.logs ++ (empty_log ∷ empty_log ∷ []);
      windows = v.windows ++ (w ∷ u ∷ []);
      next = v.next + 1;
      clock_before = v.clock;
      cut_before = v.cut;
    } in
    let same : plain_line v.clock actor (step_entry log v.no (Cut b)) ≡ line =
    ap (λ xs. split_line log v.clock actor v.no (home_in xs b) b) show.stored.shards_are in
    let grown = length_split sh b (v.next + 1) (record { number = v.next; clock = v.clock }) v.tree in
    let rest : ScalesSo after (line ∷ log) actor steps ws =
    scales_so steps after (line ∷ log) actor ws unused.1.1 (omega arith)
    (omega (arith, length-append v.logs both, as_many, grown))
    (omega (arith, length-append v.windows (w ∷ u ∷ []), as_wide, grown))
    (shows_split v log actor show as_many as_wide sh b (v.next + 1) tree (v.logs ++ (empty_log ∷ empty_log ∷ []))
    (v.windows ++ (w ∷ u ∷ [])) (w ∷ u ∷ []) refl refl refl refl (unused.0, (unused.1.0, tt))) in
    let two : 2 + made_by steps ≡ suc (suc (made_by steps)) = omega arith in
    record {
      shows = λ next drawn.
          subst (λ l. Shows (record v {
            tree = scaled steps (v.next + 1) v.clock tree;
            logs = v.logs ++ replicate (2 + made_by steps) empty_log;
            windows = v.windows ++ w ∷ u ∷ ws;
            next =
                next;
            clock_before = v.clock;
            cut_before = v.cut;
          })
          (with_lines (step_lines (l ∷ log) v.clock actor v.no steps) (l ∷ log))) (sym same)
          (subst (λ ls. Shows (record v {
            tree = scaled steps (v.next + 1) v.clock tree;
            logs = ls;
            windows = v.windows ++ w ∷ u ∷ ws;
            next = next;
            clock_before = v.clock;
            cut_before = v.cut;
          })
          (with_lines (step_lines (line ∷ log) v.clock actor v.no steps) (line ∷ log)))
          (append_assoc v.logs (empty_log ∷ empty_log ∷ []) (replicate (made_by steps) empty_log)
          ∙ ap (λ k. v.logs ++ replicate k empty_log) (sym two))
          (subst (λ us. Shows (record v {
            tree = scaled steps (v.next + 1) v.clock tree;
            logs = (v.logs ++ (empty_log ∷ empty_log ∷ [])) ++ replicate (made_by steps) empty_log;
            windows =
                us;
            next = next;
            clock_before = v.clock;
            cut_before = v.cut;
          })
          (with_lines (step_lines (line ∷ log) v.clock actor v.no steps) (line ∷ log)))
          (append_assoc v.windows (w ∷ u ∷ []) ws) (rest.shows next (omega arith))));
      entries_are =
          ap (λ l. l.what ∷ map (λ k. k.what) (step_lines (l ∷ log) v.clock actor v.no steps)) same
          ∙ ap (λ n. entry.Split v.no sh b n (length (shards log v.no)) (length (shards log v.no) + 1)
          ∷ map (λ k. k.what)
          (step_lines (line ∷ log) v.clock actor v.no steps)) show.stored.next_is
          ∙ ap (λ xs. entry.Split v.no sh b v.next (length xs) (length xs + 1) ∷ map (λ k. k.what)
          (step_lines (line ∷ log) v.clock actor v.no steps)) show.stored.shards_are
          ∙ ap (λ es. entry.Split v.no sh b v.next (length v.tree) (length v.tree + 1) ∷ es) rest.entries_are;
    }

-- ---- The decision

module _ (v : StreamValue) (log : Journal) (actor target : ℕ) (show : Shows v log) where
  pub scale_full : (full : Bool) → full ≡ true
      → (Err refusal.Full ≡ answer_of (scale_where full log v.clock actor v.name v.no target))
      × Shows v (with_lines (lines_of (scale_where full log v.clock actor v.name v.no target)) log)
  scale_full full is = after_refused _ refusal.Full log (λ l. Shows v l) (refused_if _ _ _ is) show

  steps_are : steps_to log v.no target ≡ scale (starts_in v.tree) target
  steps_are = ap (λ xs. scale (starts_in xs) target) show.stored.shards_are

  spent_is : (steps : List ScaleStep) → steps ≡ scale (starts_in v.tree) target
      → are_spent (next_number log v.no) (length (shards log v.no)) (steps_to log v.no target)
      ≡ are_spent v.next (length v.tree) steps
  spent_is steps are =
      ap (λ n. are_spent n (length (shards log v.no)) (steps_to log v.no target)) show.stored.next_is
      ∙ ap (λ (xs : List ShardState). are_spent v.next (length xs) (steps_to log v.no target)) show.stored.shards_are
      ∙ ap (λ ts. are_spent v.next (length v.tree) ts) (steps_are ∙ sym are)

  pub scale_spent : (full : Bool) (steps : List ScaleStep) → full ≡ false → steps ≡ scale (starts_in v.tree) target
      → are_spent v.next (length v.tree) steps ≡ true
      → (Err refusal.Spent ≡ answer_of (scale_where full log v.clock actor v.name v.no target))
      × Shows v (with_lines (lines_of (scale_where full log v.clock actor v.name v.no target)) log)
  scale_spent full steps free are spent =
      after_refused _ refusal.Spent log (λ l. Shows v l) (passed_if _ _ _ free
      ∙ refused_if _ _ _ (spent_is steps are ∙ spent)) show

  -- An accepted UpdateShardCount answers as the decision does, and the stream after the steps shows its lines.
  pub scale_done : (full : Bool) (steps : List ScaleStep) (ws : List WindowValue) (tree : List ShardState)
      (logs : List LogValue) (windows : List WindowValue) (next old : ℕ) (name : List ℕ) (entries : List Entry)
      → full ≡ false → steps ≡ scale (starts_in v.tree) target → are_spent v.next (length v.tree) steps ≡ false
      → tree ≡ scaled steps v.next v.clock v.tree → logs ≡ v.logs ++ replicate (made_by steps) empty_log
      → windows ≡ v.windows ++ ws → AllByRecursion IsUnused ws → length ws ≡ made_by steps
      → next ≡ v.next + length steps
      → old ≡ length (filter is_open v.tree) → name ≡ v.name → entries ≡ entries_in v.no steps v.next v.clock v.tree
      → length v.logs ≡ length v.tree → length v.windows ≡ length v.tree
      → (Ok (reply.Scaled name old target entries) ≡ answer_of (scale_where full log v.clock actor v.name v.no target))
      × Shows (record v {
        tree = tree;
        logs = logs;
        windows = windows;
        next = next;
        clock_before = v.clock;
        cut_before = v.cut;
      }) (with_lines (lines_of (scale_where full log v.clock actor v.name v.no target)) log)
  scale_done full steps ws tree logs windows next old name entries free are unspent tree_is logs_are windows_are
      unused many drawn counted named is_told as_many as_wide =
      let w : StreamValue =
      record v {
        tree = tree;
        logs = logs;
        windows = windows;
        next = next;
        clock_before = v.clock;
        cut_before = v.cut;
      } in
      let so = scales_so steps v log actor ws unused many as_many as_wide show in
      let lines_are : step_lines log v.clock actor v.no (steps_to log v.no target)
      ≡ step_lines log v.clock actor v.no steps =
      ap (step_lines log v.clock actor v.no) (steps_are ∙ sym are) in
      let shown : Shows w (with_lines (step_lines log v.clock actor v.no steps) log) =
      subst (λ (xs : List ShardState).
      Shows (record v {
        tree = xs;
        logs = logs;
        windows = windows;
        next = next;
        clock_before = v.clock;
        cut_before = v.cut;
      }) (with_lines (step_lines log v.clock actor v.no steps) log)) (sym tree_is)
      (subst (λ (ls : List LogValue).
      Shows (record v {
        tree = scaled steps v.next v.clock v.tree;
        logs = ls;
        windows = windows;
        next = next;
        clock_before = v.clock;
        cut_before = v.cut;
      }) (with_lines (step_lines log v.clock actor v.no steps) log))
      (sym logs_are)
      (subst (λ (us : List WindowValue).
      Shows (record v {
        tree = scaled steps v.next v.clock v.tree;
        logs = v.logs ++ replicate (made_by steps) empty_log;
        windows = us;
        next = next;
        clock_before = v.clock;
        cut_before = v.cut;
      }) (with_lines (step_lines log v.clock actor v.no steps) log)) (sym windows_are)
      (so.shows next drawn))) in
      let both = after_accepted (scale_where full log v.clock actor v.name v.no target) _ _ log (λ l. Shows w l)
      (passed_if _ _ _ free ∙ passed_if _ _ _ (spent_is steps are ∙ unspent))
      (subst (λ ls. Shows w (with_lines ls log)) (sym lines_are) shown) in
      let answer : reply.Scaled name old target entries
      ≡ reply.Scaled v.name (length (filter is_open (shards log v.no))) target
      (map (λ line. line.what) (step_lines log v.clock actor v.no (steps_to log v.no target))) =
      ap (λ (n : List ℕ). reply.Scaled n old target entries) named
      ∙ ap (λ (n : ℕ). reply.Scaled v.name n target entries) (counted
      ∙ ap (λ (xs : List ShardState). length (filter is_open xs)) (sym show.stored.shards_are))
      ∙ ap (λ (es : List Entry). reply.Scaled v.name (length (filter is_open (shards log v.no))) target es) (is_told
      ∙ sym so.entries_are ∙ ap (map (λ line. line.what)) (sym lines_are)) in
      (ap Ok answer ∙ both.0, both.1)

-- ---- What the code's tests mean

pub is_less : (a b : ℕ) → a < b → nat_lt a b ≡ true
is_less a b h = grind (arith, nat_tests)

pub is_not_less : (a b : ℕ) → b ≤ a → nat_lt a b ≡ false
is_not_less a b h = grind (arith, nat_tests)

pub starts_many : (xs : List ShardState) → length (starts_in xs) ≡ length (filter is_open xs)
starts_many xs = length_starts (filter is_open xs)

fewer_by : (b : Bool) (x : ℕ) (xs ys : List ℕ) → length xs ≤ length ys → length (cond b (x ∷ xs) xs) ≤ suc (length ys)
fewer_by true x xs ys h = omega arith
fewer_by false x xs ys h = omega arith

fewer : (p : ℕ → Bool) (xs : List ℕ) → length (filter p xs) ≤ length xs
fewer p [] = omega arith
fewer p (x ∷ xs) = fewer_by (p x) x (filter p xs) xs (fewer p xs)

pub few_apart : (starts wanted : List ℕ) → apart starts wanted ≤ length starts + length wanted
few_apart starts wanted =
    omega (arith, fewer (λ b. not (is_start wanted b)) starts, fewer (λ b. not (is_start starts b)) wanted)

pub few_steps : (xs : List ShardState) (target : ℕ) (starts : List ℕ) (steps : List ScaleStep) → starts ≡ starts_in xs
    → length (filter is_open xs) ≤ OPEN_SHARDS → target ≤ 500 → length steps ≡ apart starts (uniform_starts target)
    → length steps ≤ 2 ^ 30
few_steps xs target starts steps are few most count =
    omega (
      arith,
      count,
      few_apart starts (uniform_starts target),
      length_wanted target,
      starts_many xs,
      ap (length {A = ℕ}) are,
      few,
      most,
    )

pub open_so : (xs : List ShardState) (target : ℕ) → starts_in xs ≡ uniform_starts target → target ≤ 500
    → length (filter is_open xs) ≤ OPEN_SHARDS
open_so xs target are most = omega (arith, starts_many xs, ap (length {A = ℕ}) are, length_wanted target, most)

pub spent_so : (next a k l m : ℕ) (tree : List ShardState) (steps : List ScaleStep) → a ≡ next → k ≡ length steps
    → l ≡ length tree → m ≡ made_by steps → (nat_lt last_number (a + k) || nat_lt last_number (l + m))
    ≡ are_spent next (length tree) steps
spent_so next a k l m tree steps is_at ak al am =
    ap (λ n. nat_lt last_number (n + k) || nat_lt last_number (l + m)) is_at
    ∙ ap (λ n. nat_lt last_number (next + n) || nat_lt last_number (l + m)) ak
    ∙ ap (λ n. nat_lt last_number (next + length steps) || nat_lt last_number (n + m)) al
    ∙ ap (λ n. nat_lt last_number (next + length steps) || nat_lt last_number (length tree + n)) am

not_past : (n : ℕ) → nat_lt last_number n ≡ false → n < 2 ^ 64
not_past n h = grind (arith, nat_tests)

pub numbers_fit : (next count : ℕ) (steps : List ScaleStep) → are_spent next count steps ≡ false
    → next + length steps < 2 ^ 64
numbers_fit next count steps free = not_past (next + length steps) (neither_left _ _ free)
