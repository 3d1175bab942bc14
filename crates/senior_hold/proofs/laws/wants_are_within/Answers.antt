use Rattle.std.proofs.Common.{slice_index}
use Rattle.water_model.proofs.Wants.{want_most, want_carried}
use Rattle.senior_hold.specs.Laws.{WantsAreWithin}
use Rattle.senior_hold.proofs.laws.wants_are_within.Goals as goal

within : WantsAreWithin
within b series index used want valid fits count each = record {
  count = count;
  small = λ r l. rw (each r l) (want_most b series r index (slice_index used r) valid fits l);
  instream = λ r e l on. rw (each r l) (want_carried b series r index (slice_index used r) e on);
}

pub returns : goal.returns
returns c = within
