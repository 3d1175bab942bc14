use Rattle.basin_cli.proofs.actions.trial_basin.Goals as goal

pub returns : goal.returns
returns g c =
    let made = c.in-Ok.made in
    let did = c.put_trial-ending.ensures in
    record {
      ends = did.ends;
      at = did.at;
      leaves = λ may. rw (← c.in-Ok.ensures.basin) (made.1, c.in-Ok.ensures.series, did.leaves may);
      out_stays = did.out_stays;
      idle = did.idle;
      work = rw (← c.in-Ok.ensures.basin) did.work;
      flushed = did.flushed;
    }
