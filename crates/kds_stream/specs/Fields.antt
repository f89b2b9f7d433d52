-- The value that represents a stream in contracts, made from its fields.
use Rattle.std.specs.Prelude.{map}
use Rattle.kds_log.specs.Log.{log_of}
use Rattle.kds_stream.specs.declared.stream.Stream.TheInside.{Inside}
use Rattle.kds_stream.specs.Value.{StreamValue}

-- The stream value of the fields; its logs leave out their reserved memory.
abbrev pub value_of : (s : Inside) → StreamValue
value_of s =
    record {
      no = s.no;
      name = s.name;
      made_at = s.made_at;
      hours = s.hours;
      tree = s.tree.shards;
      logs = map log_of s.logs.items;
      windows = s.windows.items;
      enforced = s.enforced;
      next = s.next;
      clock = s.clock;
      cut = s.cut;
      clock_before = s.clock_before;
      cut_before = s.cut_before;
      next_to_settle = s.next_to_settle;
    }
