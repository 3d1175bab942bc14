use Rattle.std.proofs.Common.{◌∙◌, arith}
use Rattle.senior_hold.proofs.Placing.{fixed_lent, places_again}
use Rattle.senior_hold.proofs.places.sweep.Goals as goal

pub returns-clause-places : goal.returns-clause-places
returns-clause-places g c =
    let words = c.words_mut-words.ensures in
    let parts = c.split_at_mut-held.ensures in
    let arcs = c.split_at_mut-fixed.ensures in
    places_again c.sweep_month.new.moving c.sweep_month.new.words c.requires.places
    (fixed_lent c.requires.places words.words parts.front arcs.front c.fixed.ensures)
    (arcs.front_len ∙ c.fixed.ensures)
    (omega (arith, c.sweep_month.auto.moving, parts.front_len, arcs.front_len, arcs.back_len))
    (omega (arith, c.sweep_month.auto.words, parts.back_len, words.count))

pub sweep_month-requires-clause-givens : goal.sweep_month-requires-clause-givens
sweep_month-requires-clause-givens g c = c.requires.givens

pub sweep_month-requires-clause-room : goal.sweep_month-requires-clause-room
sweep_month-requires-clause-room g c = c.requires.room

pub sweep_month-requires-clause-begin : goal.sweep_month-requires-clause-begin
sweep_month-requires-clause-begin g c = c.requires.begin

pub sweep_month-requires-clause-arcs : goal.sweep_month-requires-clause-arcs
sweep_month-requires-clause-arcs g c =
    let words = c.words_mut-words.ensures in
    let parts = c.split_at_mut-held.ensures in
    let arcs = c.split_at_mut-fixed.ensures in
    record {
      contents = c.requires.places.contents;
      fixed = fixed_lent c.requires.places words.words parts.front arcs.front c.fixed.ensures;
      ends = c.requires.places.ends;
      count = omega (arith, arcs.back_len, c.fixed.ensures, parts.front_len, words.count, c.requires.places.held.size);
    }

pub sweep_month-requires-clause-size : goal.sweep_month-requires-clause-size
sweep_month-requires-clause-size g c =
    omega (arith, c.split_at_mut-held.ensures.back_len, c.words_mut-words.ensures.count, c.requires.places.size)

pub words_mut-words-requires : goal.words_mut-words-requires
words_mut-words-requires g c = omega (arith, c.requires.places.next, c.requires.places.used)

pub returns-clause-room : goal.returns-clause-room
returns-clause-room g c = c.sweep_month.ensures.room

pub returns-clause-swept : goal.returns-clause-swept
returns-clause-swept g c = c.sweep_month.ensures.swept
