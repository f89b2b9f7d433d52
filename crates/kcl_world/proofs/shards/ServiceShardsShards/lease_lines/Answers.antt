use Rattle.kcl_world.proofs.shards.ServiceShardsShards.lease_lines.Goals as goal

pub returns : goal.returns
returns c = c.lease_lines.ensures c.args.self.now.service.now
