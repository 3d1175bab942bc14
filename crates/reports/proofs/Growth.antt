-- What is kept of some months, and of one month more.
use Rattle.std.proofs.Common.{◌≡◌, ℕ, ◌+◌, Bool, true, false, cond, refl, ◌∙◌, ap, List, [], ◌∷◌, ◌++◌}
use Rattle.std.specs.Prelude.{max, nat_lt, slice_index, Option, Some, option_map, if◌then◌else◌}
use Rattle.std.proofs.lemmas.List.Sums.{sum_by_push}
use Rattle.water_model.proofs.Histories.{opens_with_last}
use Rattle.water_model.specs.declared.types.MonthRecord.{MonthRecord}
use Rattle.reports.specs.Figures.{shortage, worst_month}
use Rattle.reports.specs.Tallies.{figures_of, greatest_of}
use Rattle.reports.specs.declared.figures.RightFigures.{RightFigures}
use Rattle.reports.specs.declared.waters.Waters.{Waters}
use Rattle.reports.proofs.Worst.{greatest-append, worst_more}

pub same_waters : (a b c d e f g : ℕ) (a' b' c' d' e' f' g' : ℕ) → a ≡ a' → b ≡ b' → c ≡ c' → d ≡ d' → e ≡ e' → f ≡ f' →
    g ≡ g' →
    (let one : Waters =
    record { opening = a; inflows = b; returns = c; closing = d; evaporated = e; diverted = f; out = g } in
    let other : Waters =
    record { opening = a'; inflows = b'; returns = c'; closing = d'; evaporated = e'; diverted = f'; out = g' } in
    one ≡ other)
same_waters a b c d e f g a' b' c' d' e' f' g' h1 h2 h3 h4 h5 h6 h7 = cc

-- what the water of one month more needs
pub ruleset waters_more = (sum_by_push, opens_with_last)

-- the first month of greatest shortage, by one month more
pub worst_month_more : (records : List MonthRecord) (m : MonthRecord) (right : ℕ) →
    worst_month (records ++ m ∷ []) right
    ≡ (if nat_lt (greatest_of (λ k. shortage k right) records) (shortage m right) then Some m.month else worst_month
    records right)
worst_month_more records m right =
    ap (option_map (λ k. k.month)) (worst_more (λ k. shortage k right) records m)
    ∙ by_test (nat_lt (greatest_of (λ k. shortage k right) records) (shortage m right)) _
  where
    by_test : (t : Bool) (found : Option MonthRecord) →
        option_map (λ k. k.month)
        (if t then Some m else found) ≡ (if t then Some m.month else option_map (λ k. k.month) found)
    by_test true found = refl
    by_test false found = refl

pub figures_more : (records : List MonthRecord) (m : MonthRecord) (right : ℕ) (f : RightFigures) →
    f ≡ figures_of records right →
    figures_of (records ++ m ∷ []) right ≡ record {
      short_months = f.short_months
          + (if nat_lt (slice_index m.delivered right) (slice_index m.want right) then 1 else 0);
      wanted = f.wanted + slice_index m.want right;
      delivered = f.delivered + slice_index m.delivered right;
      greatest = max f.greatest (shortage m right);
      worst = if nat_lt f.greatest (shortage m right) then Some m.month else f.worst;
    }
unfolding figures_of
figures_more records m right f is = rw is
    (rw (
      worst_month_more records m right,
      greatest-append (λ k. shortage k right) records m,
      sum_by_push (λ k. slice_index k.want right) records m,
      sum_by_push (λ k. slice_index k.delivered right) records m,
      sum_by_push (λ k. cond (nat_lt (slice_index k.delivered right) (slice_index k.want right)) 1 0) records m,
    ) refl)
