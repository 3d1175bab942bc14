use Rattle.std.proofs.Common.{[], ◌∷◌, ◌++◌, subst}
use Rattle.std.specs.List.{flat_map}
use Rattle.water_edge.specs.Edge.{Puts}
use Rattle.water_model.specs.Entries.{in_order}
use Rattle.call_list.specs.Entries.{whole_line}
use Rattle.call_list.specs.Lists.{space_of}
use Rattle.call_list.specs.MonthsCalls.{CallsSeen, lines_of}
use Rattle.call_list.specs.declared.entry.Entry.TheVariants as line
use Rattle.call_list.specs.declared.part.TheConstants.{PARTS}
use Rattle.call_list.proofs.writer.put_month.Goals as goal

pub returns-clause-text : goal.returns-clause-text
returns-clause-text g c =
    subst (λ (v : CallsSeen). Puts (g.K.Sink.output c.args.sink.now) (g.K.Sink.output c.put_listing.new.sink)
    c.put_listing.result (flat_map (whole_line v.basin) (line.Month v.month.month
    ∷ (flat_map (λ p. flat_map (lines_of c.args.calls.now p) (in_order (space_of p) v.basin)) PARTS
    ++ line.End ∷ [])))) c.calls.view_is c.put_listing.ensures.text
