-- Worked comparisons.
use Rattle.std.proofs.Common.{◌≡◌, ℕ, zero, suc, ◌<◌, Bool, true, false, refl, arith, List, [], ◌∷◌}
use Rattle.std.proofs.lemmas.Bool.{eqb-true}
use Rattle.std.specs.Prelude.{codes, All, IsTrue, ◌==◌, ◌||◌, slice_get}
use Rattle.std.specs.Fmt.{digits}
use Rattle.water_model.specs.Basin.{is_senior}
use Rattle.water_model.specs.History.{is_zone_of}
use Rattle.water_model.specs.Indices.{numbers_from, by_seniority}
use Rattle.water_model.specs.Rights.{is_lower, priority}
use Rattle.water_model.specs.Valid.{rank_of_kind}
use Rattle.water_model.specs.declared.types.Basin.{Basin}
use Rattle.water_model.specs.declared.types.MonthRecord.{MonthRecord}
use Rattle.water_model.proofs.Worked.{stream, old, new, fish}
use Rattle.injury.specs.Common.{common_rights}
use Rattle.injury.specs.Injuries.{injuries, row, comparison_text}
use Rattle.injury.specs.OneMore.{HasOneMore}
use Rattle.injury.specs.Changed.{HasChanged, IsSeniorToChange, SparesCarryover}

-- a month of which the deliveries are given
abbrev delivers : List ℕ → MonthRecord
delivers amounts = record {
  index = 0;
  month = record { year = 1900; month = 1 };
  opening = [];
  evaporated = [];
  returned = [];
  used = [];
  supply = [];
  want = [];
  plan = record { flow = []; take = []; out = [] };
  delivered = amounts;
  cuts = record { nodes = 3; sets = [] };
  closing = [];
}

-- where the right at the top is senior, the other gets what it leaves
one_injured : comparison_text (stream 80 (old ∷ new 1920 ∷ [])) (stream 80 (old ∷ new 1880 ∷ []))
    (delivers (60 ∷ 20 ∷ []) ∷ []) (delivers (30 ∷ 50 ∷ []) ∷ [])
    ≡ codes "injured 1900-01 old 60 30\ncompared 2 1\n"
unfolding common_rights injuries row comparison_text by_seniority numbers_from digits
one_injured = refl

-- one more right that is junior to all injures nobody
none_injured : comparison_text (stream 80 (old ∷ [])) (stream 80 (old ∷ new 1920 ∷ [])) (delivers (60 ∷ []) ∷ [])
    (delivers (60 ∷ 20 ∷ []) ∷ [])
    ≡ codes "compared 1 0\n"
unfolding common_rights injuries row comparison_text by_seniority numbers_from digits
none_injured = refl

-- it stands after the other diversion, before the instream right
last : All (λ r. rank_of_kind (new 1920).kind < rank_of_kind r.kind) (fish ∷ [])
last zero d l = omega arith
last (suc k) d l = absurd (omega arith)

junior : All (λ r. IsTrue (is_lower (priority r) (priority (new 1920)))) (old ∷ fish ∷ [])
junior zero d l = refl
junior (suc zero) d l = refl
junior (suc (suc k)) d l = absurd (omega arith)

one_more : HasOneMore (stream 80 (old ∷ fish ∷ [])) (stream 80 (old ∷ new 1920 ∷ fish ∷ [])) 1 (new 1920)
one_more =
    record { basin = refl; position = omega arith; no_zone = omega arith; last_of_kind = last; most_junior = junior }

-- the right at the top gets another date, between those of the others
abbrev was : Basin
was = stream 80 (old ∷ new 1920 ∷ fish ∷ [])

abbrev will_be : Basin
will_be = stream 80 (old ∷ new 1885 ∷ fish ∷ [])

abbrev second_right : ℕ → Bool
second_right r = r == 1

another_date : HasChanged was will_be second_right
another_date = record { basin = refl; count = refl; others = others }
  where
    others : (r : ℕ) → r < 3 → r == 1 ≡ false →
        slice_get (old ∷ new 1885 ∷ fish ∷ []) r ≡ slice_get (old ∷ new 1920 ∷ fish ∷ []) r
    others zero l h = refl
    others (suc zero) l h = absurd (cc (h))
    others (suc (suc r)) l h = refl

-- the trout are senior to it with both dates, and the old right isn't
trout_are_senior : IsSeniorToChange was will_be second_right 2
trout_are_senior = record { in_range = omega arith; unchanged = refl; before = before; after = after }
  where
    before : (c : ℕ) → c < 3 → c == 1 ≡ true → IsTrue (is_senior was 2 c)
    before zero l h = absurd (cc (h))
    before (suc zero) l h = refl
    before (suc (suc c)) l h = absurd (let e = eqb-true (suc (suc c)) 1 h in omega arith)

    after : (c : ℕ) → c < 3 → c == 1 ≡ true → IsTrue (is_senior will_be 2 c)
    after zero l h = absurd (cc (h))
    after (suc zero) l h = refl
    after (suc (suc c)) l h = absurd (let e = eqb-true (suc (suc c)) 1 h in omega arith)

-- there is no zone, and nothing comes back
nothing_is_carried_over : SparesCarryover was will_be second_right
nothing_is_carried_over = record { zones = zones; returns = λ k row h. absurd (cc (h)) }
  where
    zones : (r v : ℕ) → r < 3 → IsTrue (is_zone_of was r v || is_zone_of will_be r v) →
        IsSeniorToChange was will_be second_right r
    zones zero v l h = absurd (cc (h))
    zones (suc zero) v l h = absurd (cc (h))
    zones (suc (suc zero)) v l h = absurd (cc (h))
    zones (suc (suc (suc r))) v l h = absurd (omega arith)

old_is_injured : comparison_text was will_be (delivers (60 ∷ 20 ∷ 30 ∷ []) ∷ []) (delivers (30 ∷ 50 ∷ 30 ∷ []) ∷ [])
    ≡ codes "injured 1900-01 old 60 30\ncompared 3 1\n"
unfolding common_rights injuries row comparison_text by_seniority numbers_from digits
old_is_injured = refl
