use Rattle.commit_job.proofs.Plans.{base_there, end_there, uber_there, write_there}
use Rattle.commit_job.proofs.plan.Plan.call_at.Goals as goal

pub returns-then-place-writes : goal.returns-then-place-writes
returns-then-place-writes c = record {
  value = write_there c.args.self.now.devices c.args.self.now.count c.page_sectors-sectors.result c.args.place c.page_sectors-sectors.ensures
      c.if-place-writes.true;
}

pub returns-then-stage-eq0 : goal.returns-then-stage-eq0
returns-then-stage-eq0 c = record {
  value = base_there c.args.self.now.devices c.args.self.now.count c.page_sectors-sectors.result c.args.place c.page_sectors-sectors.ensures
      c.if-place-writes.false c.requires.inside c.if-stage-eq0.true;
}

pub returns-then-stage-eq1 : goal.returns-then-stage-eq1
returns-then-stage-eq1 c = record {
  value = uber_there c.args.self.now.devices c.args.self.now.count c.page_sectors-sectors.result c.args.place c.page_sectors-sectors.ensures
      c.if-place-writes.false c.requires.inside c.if-stage-eq1.true;
}

pub returns-else-stage-eq1 : goal.returns-else-stage-eq1
returns-else-stage-eq1 c = record {
  value = end_there c.args.self.now.devices c.args.self.now.count c.page_sectors-sectors.result c.args.place c.page_sectors-sectors.ensures
      c.if-place-writes.false c.requires.inside c.if-stage-eq0.false c.if-stage-eq1.false;
}
