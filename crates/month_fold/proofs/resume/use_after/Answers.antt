use Rattle.std.proofs.Common.{◌∙◌, ap, length, map}
use Rattle.std.specs.Prelude.{replicate}
use Rattle.month_fold.proofs.Resuming.{last_at, used_by_last, used_by_zeros}
use Rattle.water_model.proofs.Lists.{whole_rows}
use Rattle.month_fold.proofs.resume.use_after.Goals as goal

pub use_last-requires : goal.use_last-requires
use_last-requires c =
    let last = c.requires.stated _ _ (last_at (λ m. m.value) c.args.months.now c.in-Some.month.now c.deref.result.now
    c.deref.ensures c.in-Some.ensures.value) in
    record {
      basin = c.requires.basin;
      index = last.within;
      deliveries = last.delivered;
      before = last.used.count;
      little = last.little;
      room = c.requires.room;
    }

pub returns-in-Some : goal.returns-in-Some
returns-in-Some c =
    used_by_last c.args.basin.now (map (λ m. m.value) c.args.months.now) c.deref.result.now c.use_last.new.used
    c.requires.stated
    (last_at (λ m. m.value) c.args.months.now c.in-Some.month.now c.deref.result.now
    c.deref.ensures c.in-Some.ensures.value) c.use_last.ensures

pub returns-in-None : goal.returns-in-None
returns-in-None c =
    used_by_zeros (λ m. m.value) c.args.basin.now c.args.months.now _ c.in-None.ensures.value
    (whole_rows c.args.used.now c.fill.new.self (c.fill.ensures.len ∙ ap length c.as_mut_slice.ensures.value)
    ∙ (c.fill.ensures.after (λ y h. h)
    ∙ ap (λ n. replicate n 0) (ap length c.as_mut_slice.ensures.value ∙ c.requires.room)))
