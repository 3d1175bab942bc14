use Rattle.std.proofs.Common.{◌≡◌, sym, ap, ◌∙◌, ◌+◌, ◌<◌, take, length, arith, inl}
use Rattle.std.proofs.lemmas.List.{length-take-le}
use Rattle.std.proofs.lemmas.List.Quantifiers.{position-Some}
use Rattle.water_text.specs.LinesIn.{is_feed}
use Rattle.water_text.proofs.LineFeeds.{takes_prefix, takes_to_feed}
use Rattle.water_text.proofs.line_in.LineIn.feed.Goals as goal

pub returns-in-Some-clause-takes : goal.returns-in-Some-clause-takes
returns-in-Some-clause-takes c =
    let found = sym c.first_feed.ensures ∙ c.in-Some.is in
    let prefix = take c.min.result c.args.piece.now in
    let within : c.in-Some.at < length prefix = (position-Some is_feed prefix c.in-Some.at 0 found).0 in
    let counted : length (take c.in-Some.at prefix) ≡ c.in-Some.at = length-take-le c.in-Some.at prefix (omega arith) in
    let len : length (take c.self.inside.len c.self.inside.bytes) ≡ c.self.inside.len =
    length-take-le c.self.inside.len c.self.inside.bytes (omega arith) in
    rw (← c.self.view_is) (inl (takes_to_feed _ _ c.args.piece.now c.min.result c.in-Some.at found (omega (arith, len))
    (ap (λ n. take (c.self.inside.len + n) c.copy_to.new.bytes) (sym counted) ∙ c.copy_to.ensures)))

pub returns-in-None-clause-takes : goal.returns-in-None-clause-takes
returns-in-None-clause-takes c =
    rw (← c.self.view_is) (takes_prefix _ _ c.args.piece.now c.self.inside.len c.min.result
    (sym c.first_feed.ensures ∙ c.in-None.is) (length-take-le c.self.inside.len c.self.inside.bytes (omega arith))
    (c.self.invariant.short (ap (λ l. l.whole) c.self.view_is ∙ c.requires)) c.min.ensures c.copy_to-in-None.ensures)
