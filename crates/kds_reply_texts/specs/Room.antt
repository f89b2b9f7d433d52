-- The JSON text of a record that is written over zero bytes, if its key needs no escaping.
use Rattle.std.specs.Prelude.{ℕ, List, ◌+◌, ◌++◌, true, codes, decimal, length}
use Rattle.base64.specs.Engines.{standard}
use Rattle.base64.specs.GeneralPurpose.{encode_of}
use Rattle.base64.specs.Rfc4648.{encoded_size}
use Rattle.json.specs.Print.{escape}

-- A record's JSON text before its payload, for the second of its arrival.
unfoldable pub front_text : (second : ℕ) → List ℕ
front_text second = codes "{\"ApproximateArrivalTimestamp\":" ++ (decimal second ++ codes ",\"Data\":\"")

-- A record's JSON text: `front`, the payload in base64, the key `name` unescaped, and the number.
unfoldable pub written_record : (front payload name : List ℕ) (seq : ℕ) → List ℕ
written_record front payload name seq =
    front ++ (escape (encode_of standard payload)
    ++ (codes "\",\"PartitionKey\":\""
    ++ (name ++ (codes "\",\"SequenceNumber\":\"" ++ (escape (decimal seq) ++ codes "\"}")))))

-- An upper bound of a record's JSON text with a comma, if its key needs no escaping.
abbrev pub record_room : (payload name : List ℕ) → ℕ
record_room payload name = encoded_size (length payload) true + (length name + 128)
