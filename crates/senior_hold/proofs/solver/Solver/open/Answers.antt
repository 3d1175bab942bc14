use Rattle.senior_hold.proofs.solver.Solver.open.Goals as goal

pub invariant_of-result : goal.invariant_of-result
invariant_of-result c = record {
  valid = c.requires;
  is_layout = c.in_ok-layout.ensures;
  fits_room = c.in_ok-room.ensures;
  places = c.open_places-places.ensures.places;
  rounds = c.in_ok-rounds.ensures;
}
