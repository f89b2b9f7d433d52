use Rattle.kds_reply_texts.specs.Errors.{error_data}
use Rattle.kds_reply_texts.proofs.Joined.{begun}
use Rattle.kds_reply_texts.proofs.errors.error_body.Goals as goal

pub returns : goal.returns
returns c = c.written.ensures (error_data c.args.name.now c.args.message.now)
    (begun _ _ _ c.in_ok-out.ensures.nothing c.in_ok-put_error.ensures.ok)
