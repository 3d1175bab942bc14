use Rattle.std.proofs.Common.{List, Some, ap, subst, sym, ◌∙◌}
use Rattle.bit_words.specs.Marks.{marks}
use Rattle.std.specs.List.{flat_map}
use Rattle.water_edge.specs.Edge.{Puts}
use Rattle.water_model.specs.History.{cut_of}
use Rattle.result_lines.specs.Spelling.{whole_line}
use Rattle.result_lines.specs.declared.item.Item.{Item}
use Rattle.result_lines.specs.declared.item.Item.TheVariants as line
use Rattle.result_text.specs.Members.{members_of}
use Rattle.result_text.proofs.Members.{call_lines}
use Rattle.water_edge.proofs.Puts.{Puts-first}
use Rattle.result_text.proofs.writer.put_call.Goals as goal

pub returns-in_ok-put_line-in-Some-clause-text : goal.returns-in_ok-put_line-in-Some-clause-text
returns-in_ok-put_line-in-Some-clause-text g c =
    let nodes = c.len-nodes.result in
    let words = c.in-Some.words.now in
    let all = Puts-first (whole_line c.args.basin.now) (line.Call c.args.right) (members_of nodes words)
    (g.K.Sink.output c.args.sink.now) (g.K.Sink.output c.put_line.new.sink) (g.K.Sink.output c.put_members.new.sink)
    c.put_members.result c.in_ok-put_line-in-Some.ensures.text c.put_members.ensures.text in
    subst (λ (items : List Item). Puts (g.K.Sink.output c.args.sink.now) (g.K.Sink.output c.put_members.new.sink)
    c.put_members.result (flat_map (whole_line c.args.basin.now) items))
    (call_lines c.args.right nodes words (cut_of c.args.month.now c.args.right)
    (ap (λ n. Some (marks n words)) (c.len-nodes.ensures ∙ sym c.requires.month.fits.cut_nodes)
    ∙ c.in-Some.ensures.set))
    all

pub put_line-requires-clause-basin : goal.put_line-requires-clause-basin
put_line-requires-clause-basin g c = c.requires.basin

pub put_members-requires-clause-basin : goal.put_members-requires-clause-basin
put_members-requires-clause-basin g c = c.requires.basin
