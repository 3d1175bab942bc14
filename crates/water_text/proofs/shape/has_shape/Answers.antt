use Rattle.std.proofs.Common.{◌≡◌, ◌∙◌, sym, ap, true, false, arith, ◌+◌, get_or, drop}
use Rattle.std.specs.Prelude.{◌&&◌}
use Rattle.water_text.specs.Shapes.{has_shape, fits_at}
use Rattle.water_text.proofs.ShapeLaws.{other_length, shape_step, shape_end}
use Rattle.water_text.proofs.shape.has_shape.Goals as goal

pub returns-then-pattern-text : goal.returns-then-pattern-text
returns-then-pattern-text c = sym (other_length c.args.pattern.now c.args.text.now c.if-pattern-text.true)

pub returns-then-not-fits : goal.returns-then-not-fits
returns-then-not-fits c =
    let step = shape_step c.args.pattern.now c.args.text.now c.loop-at.at (omega arith) c.loop-at-test.true in
    let fits : fits_at (get_or c.args.pattern.now c.loop-at.at 0) (get_or c.args.text.now c.loop-at.at 0) ≡ false =
    sym c.fits.ensures ∙ c.if-not-fits.true in
    sym (c.loop-at.invariant.1 ∙ step
    ∙ ap (λ t. t && has_shape (drop (c.loop-at.at + 1) c.args.pattern.now)
    (drop (c.loop-at.at + 1) c.args.text.now)) fits)

pub loop-at-preserved : goal.loop-at-preserved
loop-at-preserved c =
    let step = shape_step c.args.pattern.now c.args.text.now c.loop-at.at (omega arith) c.loop-at-test.true in
    let fits : fits_at (get_or c.args.pattern.now c.loop-at.at 0) (get_or c.args.text.now c.loop-at.at 0) ≡ true =
    sym c.fits.ensures ∙ c.if-not-fits.false in (
      c.loop-at.invariant.0,
      c.loop-at.invariant.1 ∙ step
          ∙ ap (λ t. t && has_shape (drop (c.loop-at.at + 1) c.args.pattern.now)
          (drop (c.loop-at.at + 1) c.args.text.now)) fits,
    )

pub returns : goal.returns
returns c =
    sym (c.loop-at.invariant.1 ∙ shape_end c.args.pattern.now c.args.text.now c.loop-at.at (omega arith) (omega arith))
