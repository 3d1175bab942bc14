-- The set of a right that cuts keep.
use Rattle.std.proofs.Common.{◌≡◌, ℕ, ◌+◌, ◌<◌, ◌≤◌, Bool, true, false, refl, sym, ◌∙◌, ap, subst, arith}
use Rattle.std.proofs.Common.{List, length, replicate, inl, inr}
use Rattle.std.proofs.lemmas.Bool.{cases_eq}
use Rattle.std.proofs.lemmas.List.{ext_get_or, get_or-set_same, get_or-set_other, length-map}
use Rattle.std.proofs.lemmas.List.{length-replicate, length-set}
use Rattle.std.specs.Prelude.{slice_set, IfSome, Option, Some, None}
use Rattle.water_model.specs.CutSets.{CutSets, set_of, with_set, without_sets}
use Rattle.water_model.specs.Lookups.{has}
use Rattle.water_model.specs.declared.types.Basin.{Basin}
use Rattle.water_model.specs.declared.types.MonthRecord.{MonthRecord}
use Rattle.water_model.proofs.SetEntries.{set_of_with}
use Rattle.plan_residual.proofs.Queues.{nowhere}
use Rattle.plan_residual.specs.Core.{IsCore}
use Rattle.call_list.specs.Helpers.{HelpFinderSeen, HoldsCore, HoldsPrefix, HoldsSet, IsHelpFinderOf}

-- there are as many rights where all sets were given up
pub cleared_size : (c : CutSets) → length (without_sets c).sets ≡ length c.sets
cleared_size c = length-map {B = Option (List Bool)} c.sets (λ _. None)

-- the empty set, where all sets were given up and this one was begun
pub begun : (c : CutSets) (r : ℕ) (set : List Bool) → r < length c.sets → length set ≡ c.nodes →
    HoldsPrefix c (with_set (without_sets c) r (Some (replicate c.nodes false))) r set 0
begun c r set l sized = record {
  prefix = replicate c.nodes false;
  holds = record {
    rights = length-set (without_sets c).sets r (Some (replicate c.nodes false)) ∙ cleared;
    nodes = refl;
    is = set_of_with (without_sets c) r (Some (replicate c.nodes false)) (omega (arith, cleared));
  };
  sized = length-replicate c.nodes false ∙ sym sized;
  settled = λ n l. absurd (omega arith);
  rest = λ n l. nowhere c.nodes n;
}
  where
    cleared : length (without_sets c).sets ≡ length c.sets
    cleared = cleared_size c

-- one more node that the set doesn't have
pub prefix_skip : (before now : CutSets) (r : ℕ) (set : List Bool) (k : ℕ) → has set k ≡ false →
    HoldsPrefix before now r set k → HoldsPrefix before now r set (k + 1)
prefix_skip before now r set k none so = record {
  prefix = so.prefix;
  holds = so.holds;
  sized = so.sized;
  settled = λ n l. elim (cases_eq n k) [
    | inl same ↦ ap (has so.prefix) same ∙ (so.rest k (omega arith) ∙ (sym none ∙ ap (has set) (sym same)))
    | inr other ↦ so.settled n (omega arith)
  ];
  rest = λ n l. so.rest n (omega arith);
}

-- and one that it has
pub prefix_more : (before now next : CutSets) (r : ℕ) (set : List Bool) (k : ℕ) → r < length before.sets →
    k < length set → has set k ≡ true → HoldsPrefix before now r set k →
    IfSome (set_of now r) (λ old. next ≡ with_set now r (Some (slice_set old k true))) →
    HoldsPrefix before next r set (k + 1)
prefix_more before now next r set k l below on so added = record {
  prefix = slice_set so.prefix k true;
  holds = record {
    rights = rw done (length-set now.sets r (Some (slice_set so.prefix k true)) ∙ so.holds.rights);
    nodes = rw done so.holds.nodes;
    is = rw done (set_of_with now r (Some (slice_set so.prefix k true)) (omega (arith, so.holds.rights)));
  };
  sized = length-set so.prefix k true ∙ so.sized;
  settled = λ n m. elim (cases_eq n k) [
    | inl same ↦
        ap (has (slice_set so.prefix k true)) same
        ∙ (get_or-set_same so.prefix k true false (omega (arith, so.sized)) ∙ (sym on ∙ ap (has set) (sym same)))
    | inr other ↦ get_or-set_other so.prefix k n true false other ∙ so.settled n (omega arith)
  ];
  rest = λ n m.
      get_or-set_other so.prefix k n true false (λ same. absurd (omega arith)) ∙ so.rest n (omega arith);
}
  where
    done : next ≡ with_set now r (Some (slice_set so.prefix k true))
    done = subst (λ (o : Option (List Bool)). IfSome o (λ old. next ≡ with_set now r (Some (slice_set old k true))))
        so.holds.is added

-- all nodes
pub prefix_whole : (before now : CutSets) (r : ℕ) (set : List Bool) (k : ℕ) → length set ≤ k →
    HoldsPrefix before now r set k → HoldsSet before now r set
prefix_whole before now r set k all so = subst (λ (xs : List Bool). HoldsSet before now r xs) same so.holds
  where
    same : so.prefix ≡ set
    same = ext_get_or false so.prefix set so.sized (λ i l. so.settled i (omega (arith, so.sized)))

-- a core that is kept
pub core_kept : {b : Basin} {m : MonthRecord} {r : ℕ} {finder : HelpFinderSeen} {new : CutSets} {core : List Bool} →
    IsHelpFinderOf b finder → r < length b.rights → IsCore b m r core → HoldsSet finder.cuts new r core →
    HoldsCore b m r new
core_kept is l is_core held = record {
  cut = record {
    in_range = l;
    rights = held.rights ∙ is.rights;
    nodes = held.nodes ∙ is.nodes;
    held = rw held.is refl;
  };
  is_core = rw held.is is_core;
}
