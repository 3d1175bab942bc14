use Rattle.std.proofs.Common.{◌∙◌, sym, ap, take}
use Rattle.std.proofs.lemmas.List.{take-map, length-map}
use Rattle.edit_session.specs.Sessions.{records_of}
use Rattle.edit_session.proofs.session.Session.solve.Goals as goal

pub returns-clause-stay : goal.returns-clause-stay
returns-clause-stay g c =
    rw (← c.self.view_is)
    (ap (λ n. take n (records_of c.solve_months.new.kept.items)) (length-map c.self.inside.kept.items (λ m. m.value)
    ∙ sym c.self.inside.kept.ok.0)
    ∙ take-map (λ m. m.value) c.self.inside.kept.len c.solve_months.new.kept.items
    ∙ ap records_of c.solve_months.ensures.stay)
