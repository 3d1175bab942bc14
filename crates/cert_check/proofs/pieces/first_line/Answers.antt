use Rattle.std.proofs.Common.{◌≡◌, ℕ, ◌+◌, ◌<◌, [], sym, ◌∙◌, take, length, arith, subst, refl}
use Rattle.std.proofs.lemmas.List.{length-take-le}
use Rattle.std.proofs.lemmas.List.Quantifiers.{position-Some}
use Rattle.water_text.specs.LinesIn.{TakesToFeed, is_feed}
use Rattle.water_text.proofs.LineFeeds.{takes_to_feed}
use Rattle.cert_check.proofs.pieces.first_line.Goals as goal

pub returns-in-Some-clause-takes : goal.returns-in-Some-clause-takes
returns-in-Some-clause-takes c =
    let found = sym c.first_feed.ensures ∙ c.in-Some.is in
    let prefix = take c.min.result c.args.piece.now in
    let within : c.in-Some.at < length prefix = (position-Some is_feed prefix c.in-Some.at 0 found).0 in
    let counted : length (take c.in-Some.at prefix) ≡ c.in-Some.at = length-take-le c.in-Some.at prefix (omega arith) in
    subst (λ (n : ℕ). TakesToFeed [] (take c.in-Some.at prefix) c.args.piece.now (n + 1)) (sym counted)
    (takes_to_feed [] (take c.in-Some.at prefix) c.args.piece.now c.min.result c.in-Some.at found
    (omega (arith, c.min.ensures)) refl)
