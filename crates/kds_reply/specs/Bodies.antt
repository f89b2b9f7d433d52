-- Members that are left out without a value, and the token of a listing.
use Rattle.std.specs.Prelude.{ℕ, List, Option, Some, None}
use Rattle.serde_json.specs.Data.{Data, string, Members, member, put}
use Rattle.kds_defs.specs.declared.reply.Page.{Page}
use Rattle.kds_token.specs.Tokens.{page_token}

-- The member before `ms`, or just `ms` without a value.
abbrev pub member_if : (name : List ℕ) (d : Option Data) (ms : Members) → Members
member_if name None ms = ms
member_if name (Some d) ms = member name d ms

-- The members with a value set for `name`, in the order of names; unchanged without a value.
abbrev pub put_if : (name : List ℕ) (d : Option Data) (ms : Members) → Members
put_if name None ms = ms
put_if name (Some d) ms = put name d ms

-- The NextToken with which a listing goes on, as a JSON string.
abbrev pub page_string : (p : Page) → Data
page_string p = string (page_token p)
