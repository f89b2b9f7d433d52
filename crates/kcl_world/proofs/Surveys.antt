-- A survey changes nothing and is answered with the listed shards and all rows.
use Rattle.std.proofs.Common.{◌≡◌, ℕ, List, sym, ap, ◌∙◌}
use Rattle.std.specs.Prelude.{Ok}
use Rattle.kds_base.specs.declared.lease_key.ShardRef.{ShardRef}
use Rattle.kds_defs.specs.declared.command.Command.TheVariants as command
use Rattle.kds_defs.specs.declared.reply.Reply.TheVariants as reply
use Rattle.kds_defs.specs.declared.reply.Row.{Row}
use Rattle.kds_defs.specs.Journal.{Journal}
use Rattle.kds_defs.specs.Leases.{rows, rows_at}
use Rattle.kds_defs.specs.Listings.{listed_in}
use Rattle.kds_defs.specs.Streams.{live_streams}
use Rattle.kcl_book.specs.Tenures.{TenureValue}
use Rattle.kcl_leases.proofs.RowChanges.{rows_are}
use Rattle.kds_service.specs.Shown.{ServiceValue}
use Rattle.kcl_world.specs.Standing.{Leads, Stands, world}

pub survey_leads : (s : ServiceValue) (rs : List Row) (ts : List TenureValue) (actor : ℕ) (shards : List ShardRef)
    (found : List Row) → ((log : Journal) → Stands (world s rs ts) log
    → shards ≡ listed_in log s.clock (live_streams log)) → found ≡ rs
    → Leads (world s rs ts) (world s rs ts) actor command.Survey (Ok (reply.Survey shards found))
survey_leads s rs ts actor shards found listed is = λ log st.
    let all : found ≡ rows log = is ∙ sym (rows_are log rs st.row_is st.distinct)
    ∙ ap (rows_at log) (sym st.keys_are) in (
      ap (λ xs. Ok (reply.Survey xs found)) (listed log st)
          ∙ ap (λ ys. Ok (reply.Survey (listed_in log s.clock (live_streams log)) ys)) all,
      st,
    )
