use Rattle.std.proofs.Common.{◌∙◌, ap, None}
use Rattle.basin_tree.specs.Documents.{tree_of}
use Rattle.basin_file.specs.Spelled.{first_of}
use Rattle.basin_file.proofs.Whole.{plain_of}
use Rattle.basin_file.proofs.build.basin_of.Goals as goal

pub returns-clause-basin : goal.returns-clause-basin
returns-clause-basin c = λ i. record {
  format = c.format.ensures i;
  unit = None;
  first = (c.first_of.ensures ∙ ap first_of (c.as_bytes.ensures.value ∙ c.text_or_empty.ensures)) i;
  months = c.integer_at.ensures.value i;
  year_start = c.integer_at-2.ensures.value i;
  nodes = c.in_ok-nodes.ensures.nodes i;
  links = c.in_ok-nodes.ensures.links i;
  reservoirs = c.in_ok-reservoirs.ensures i;
  rights = c.in_ok-nodes.ensures.rights i;
  returns = c.in_ok-nodes.ensures.returns i;
  due = c.new.ensures i;
  accounts = c.new-2.ensures i;
  draws = c.new-3.ensures i;
}

pub returns-clause-plain : goal.returns-clause-plain
returns-clause-plain c = plain_of (tree_of c.args.document.now) _ (returns-clause-basin c)
