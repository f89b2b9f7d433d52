-- The origin after a key or worker in a text: where the reading of a shard begins.
use Rattle.std.specs.Prelude.{ℕ, ◌^◌, ◌<◌, List, [], ◌++◌, codes, decimal, if◌then◌else◌, Option, Some, None}
use Rattle.std.specs.Prelude.{option_map}
use Rattle.std.specs.Str.{bytes_eq}
use Rattle.kds_defs.specs.declared.command.Origin.{Origin}
use Rattle.kds_defs.specs.declared.command.Origin.TheVariants as origin
use Rattle.kds_base.specs.Moments.{moment_of}
use Rattle.kcl_script_fields.specs.Fields.{◌>>=◌, field}

-- The origin from the text `time M`.
abbrev pub time_of : (text : List ℕ) → Option Origin
time_of text = field text >>= λ p.
    if bytes_eq p.0 (codes "time") then option_map (λ m. origin.Time m) (moment_of p.1) else None

-- The origin from the text `latest` or `time M`.
abbrev pub origin_of : (text : List ℕ) → Option Origin
origin_of text = if bytes_eq text (codes "latest") then Some origin.Latest else time_of text

-- The value and its origin from the text and its parts `p`; TRIM_HORIZON if nothing follows the value.
abbrev pub with_origin_at : {A : Type 0} → (read : List ℕ → Option A) (text : List ℕ) (p : Option (List ℕ × List ℕ)) →
    Option (A × Origin)
with_origin_at read text None = option_map (λ a. (a, origin.TrimHorizon)) (read text)
with_origin_at read text (Some p) = read p.0 >>= λ a. option_map (λ o. (a, o)) (origin_of p.1)

-- The value in the first field and the origin after it, TRIM_HORIZON if nothing follows.
abbrev pub with_origin : {A : Type 0} → (read : List ℕ → Option A) (text : List ℕ) → Option (A × Origin)
with_origin read text = with_origin_at read text (field text)

-- The origin's text after another field, with a space before it; empty for TRIM_HORIZON.
abbrev pub origin_text : (origin : Origin) → List ℕ
origin_text origin.TrimHorizon = []
origin_text origin.Latest = codes " latest"
origin_text (origin.Time m) = codes " time " ++ decimal m

-- The origin's moment, if any, is below 2^62.
abbrev pub IsOrigin : (origin : Origin) → Type 0
IsOrigin (origin.Time m) = m < 2 ^ 62
IsOrigin _ = Unit {0}
