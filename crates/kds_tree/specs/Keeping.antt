-- The state that a kept shard represents, and the kept shard that represents a state.
use Rattle.std.specs.Prelude.{ℕ, ◌≡◌, refl, Option, Some, None}
use Rattle.std.proofs.Common.{ap, ◌∙◌}
use Rattle.kds_defs.specs.Shards.{ShardState, Closing, ending, shown}
use Rattle.kds_tree.specs.declared.kept.KeptShard.TheInside.{Inside}

-- The closing from an ending sequence number and a time; the shard is open if either is missing.
abbrev pub closing_from : (n c : Option ℕ) → Option Closing
closing_from (Some n) (Some c) = Some (record { number = n; clock = c })
closing_from (Some n) None = None
closing_from None c = None

-- Both an ending sequence number and a time of closing are given, or neither is.
abbrev pub AreBothOrNeither : (n c : Option ℕ) → Type 0
AreBothOrNeither (Some n) (Some c) = Unit {0}
AreBothOrNeither (Some n) None = ⊥
AreBothOrNeither None (Some c) = ⊥
AreBothOrNeither None None = Unit {0}

-- The state that the kept shard represents.
abbrev pub state_of : (k : Inside) → ShardState
state_of k = record {
  no = k.shard.no;
  range = k.shard.range;
  parent = k.shard.parent;
  adjacent = k.shard.adjacent;
  start = k.shard.start;
  closing = closing_from k.shard.end k.closed;
}

-- ---- The kept shard that represents a state

-- The time at which a shard was closed, or `None` if it is open.
abbrev pub moment_of : (closing : Option Closing) → Option ℕ
moment_of None = None
moment_of (Some closing) = Some closing.clock

-- The kept shard that represents the state.
abbrev pub fields_of : (x : ShardState) → Inside
fields_of x = record { shard = shown x; closed = moment_of x.closing }

ending_back : (n c : Option ℕ) → AreBothOrNeither n c → ending (closing_from n c) ≡ n
ending_back None None h = refl
ending_back None (Some c) h = absurd h
ending_back (Some n) None h = absurd h
ending_back (Some n) (Some c) h = refl

moment_back : (n c : Option ℕ) → AreBothOrNeither n c → moment_of (closing_from n c) ≡ c
moment_back None None h = refl
moment_back None (Some c) h = absurd h
moment_back (Some n) None h = absurd h
moment_back (Some n) (Some c) h = refl

-- A round trip from kept shard to state, if a closing is complete or missing.
pub fields_back : (k : Inside) → AreBothOrNeither k.shard.end k.closed → fields_of (state_of k) ≡ k
fields_back k h =
    ap (λ (n : Option ℕ). let f : Inside = record {
      shard = record k.shard { end = n };
      closed = moment_of (closing_from k.shard.end k.closed);
    } in f)
    (ending_back k.shard.end k.closed h)
    ∙ ap (λ (c : Option ℕ). let f : Inside = record { shard = k.shard; closed = c } in
    f) (moment_back k.shard.end k.closed h)
