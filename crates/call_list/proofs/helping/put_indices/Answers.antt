use Rattle.std.proofs.Common.{List, subst}
use Rattle.std.proofs.lemmas.Option.{get_or_from_slice_get}
use Rattle.std.specs.List.{flat_map}
use Rattle.cut_cert.specs.Sets.{cut_at}
use Rattle.water_edge.specs.Edge.{Puts}
use Rattle.call_list.specs.Entries.{whole_line}
use Rattle.call_list.specs.declared.entry.Entry.{Entry}
use Rattle.call_list.proofs.HelpTexts.{help_pieces}
use Rattle.call_list.proofs.helping.put_indices.Goals as goal

pub returns-clause-text : goal.returns-clause-text
returns-clause-text g c =
    let b = c.args.basin.now in
    let m = c.args.month.now in
    let r = c.args.right in
    subst (λ (lines : List Entry). Puts (g.K.Sink.output c.args.sink.now) (g.K.Sink.output c.put_listing.new.sink)
    c.put_listing.result (flat_map (whole_line b) lines))
    (help_pieces b m r (cut_at m.cuts r) (cut_at c.args.core.now r) _ _
    (get_or_from_slice_get m.delivered r c.index.result.now 0 c.index.ensures)
    (get_or_from_slice_get m.want r c.index-2.result.now 0 c.index-2.ensures)) c.put_listing.ensures.text
