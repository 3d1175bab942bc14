use Rattle.basin.proofs.served.Goals as goal

pub returns : goal.returns
returns g c = record {
  ends = c.basin_main.ensures.ends;
  complete = c.basin_main.ensures.complete;
  writes = c.basin_main.ensures.writes;
  out_stays = c.basin_main.ensures.out_stays;
  err_stays = c.basin_main.ensures.err_stays;
  flushed = c.basin_main.ensures.flushed;
  shown = c.basin_main.ensures.shown;
  err_flushed = c.basin_main.ensures.err_flushed;
  unread = c.basin_main.ensures.unread;
  idle = c.basin_main.ensures.idle;
  work = c.basin_main.ensures.work;
}
