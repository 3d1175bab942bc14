use Rattle.std.proofs.Common.{◌∙◌, sym, ap}
use Rattle.std.proofs.lemmas.List.{take-map}
use Rattle.edit_session.specs.Sessions.{records_of}
use Rattle.edit_session.proofs.session.change.Goals as goal

pub returns-clause-kept : goal.returns-clause-kept
returns-clause-kept c =
    ap records_of c.truncate.ensures.items ∙ sym (take-map (λ m. m.value) c.args.index c.args.kept.now.items)
