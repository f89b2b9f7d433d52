use Rattle.kcl_world.proofs.Surveys.{survey_leads}
use Rattle.kcl_world.proofs.reads.survey.Goals as goal

pub returns : goal.returns
returns c =
    let a = c.args in
    λ actor ts. survey_leads a.service.now a.table.now ts actor c.in_ok-shards.shards c.in_ok-rows.rows
    (λ log st. c.in_ok-shards.ensures log st.shows) c.in_ok-rows.ensures
