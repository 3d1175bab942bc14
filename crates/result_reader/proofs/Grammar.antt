-- What fills the lines that are due is what a machine accepts.
use Rattle.std.proofs.Common.{arith, ◌≡◌, ℕ, zero, suc, Bool, true, false, refl, sym, ◌∙◌, ap, subst, List, [], ◌∷◌}
use Rattle.std.proofs.Common.{◌++◌, map}
use Rattle.std.proofs.Common.{length, inl, inr}
use Rattle.std.specs.Prelude.{◌&&◌, not, Some, None}
use Rattle.std.specs.List.{list_all, list_any}
use Rattle.std.proofs.lemmas.Bool.{and_parts}
use Rattle.std.proofs.Math.Bool.{and-false}
use Rattle.water_model.specs.declared.types.Basin.{Basin}
use Rattle.water_model.specs.Indices.{numbers_from, members_from}
use Rattle.result_reader.specs.Form.{is_optional, fits, IsFollowedBy, Fills}
use Rattle.result_reader.specs.Due.{is_call, is_member, is_member_shape, opened, take_line, step}
use Rattle.result_lines.specs.declared.item.Item.{Item}
use Rattle.result_lines.specs.declared.item.Item.TheVariants as line
use Rattle.result_reader.specs.declared.shape.Shape.{Shape}
use Rattle.result_reader.specs.declared.shape.Shape.TheVariants as shape
use Rattle.result_reader.proofs.Steps.{nodes_from, accepts, fits_shape, fits_itself, take_fits, take_skips, take_stops}
use Rattle.result_reader.proofs.Steps.{within_itself, accepts_step, step_open, step_shut, StepsTo, steps_to}
use Rattle.result_reader.proofs.Steps.{accepts_within}

-- The members of a call, forward.

pub members_forward : (b : Basin) (ds : List Shape) (others : List Item) (set : List Bool) (must : Bool) (k : ℕ) →
    accepts b false ds others ≡ true → (must ≡ true → list_any (λ x. x) set ≡ true) →
    accepts b must (nodes_from k (length set) ++ ds) (map (λ n. line.Member n) (members_from k set) ++ others) ≡ true
unfolding numbers_from members_from
members_forward b ds others [] true k h some = let no : false ≡ true = some refl in cc
members_forward b ds others [] false k h some = h
members_forward b ds others (true ∷ set) must k h some =
    accepts_step b must (shape.Member k ∷ (nodes_from (suc k) (length set) ++ ds))
    (nodes_from (suc k) (length set) ++ ds) (line.Member k)
    (map (λ n. line.Member n) (members_from (suc k) set) ++ others)
    (step_open b must (shape.Member k ∷ (nodes_from (suc k) (length set) ++ ds)) (line.Member k) (and-false must)
    ∙ take_fits b (shape.Member k) (nodes_from (suc k) (length set) ++ ds) (line.Member k)
    (fits_itself b (line.Member k) refl)) ∙ members_forward b ds others set false (suc k) h (λ no. cc)
members_forward b ds others (false ∷ set) must k h some =
    accepts_within b must (nodes_from (suc k) (length set) ++ ds)
    (shape.Member k ∷ (nodes_from (suc k) (length set) ++ ds))
    (map (λ n. line.Member n) (members_from (suc k) set) ++ others)
    (inl (refl, within_itself (nodes_from (suc k) (length set) ++ ds)))
    (members_forward b ds others set must (suc k) h some)

-- What fills is accepted.

-- a line that isn't a `call` opens nothing
pub data IsPlain (b : Basin) (i : Item) : Type 0 where
  call : (right : ℕ) → i ≡ line.Call right → IsPlain b i
  other : opened b i ≡ [] → is_call i ≡ false → ((members : List Item) → IsFollowedBy b i members → members ≡ []) →
      IsFollowedBy b i [] → IsPlain b i

pub plain : (b : Basin) (i : Item) → IsPlain b i
plain b line.Title = other refl refl (λ m h. h) refl
plain b (line.Run first months) = other refl refl (λ m h. h) refl
plain b (line.Month month) = other refl refl (λ m h. h) refl
plain b (line.Amount q entry amount) = other refl refl (λ m h. h) refl
plain b (line.Deliver right amount want) = other refl refl (λ m h. h) refl
plain b (line.Call right) = call right refl
plain b (line.Member node) = other refl refl (λ m h. h) refl
plain b (line.Called right by') = other refl refl (λ m h. h) refl
plain b line.End = other refl refl (λ m h. h) refl
plain b (line.Done months) = other refl refl (λ m h. h) refl

pub fills_accepted : (b : Basin) (ds : List Shape) (items : List Item) → Fills b ds items →
    accepts b false ds items ≡ true
fills_accepted b [] items h = rw h refl
fills_accepted b (d ∷ ds) items (inl (o, h)) =
    accepts_within b false ds (d ∷ ds) items (inl (o, within_itself ds)) (fills_accepted b ds items h)
fills_accepted b (d ∷ ds) items (inr (i, members, others, f, group, are, h)) =
    grind (arith, plain, accepts, accepts_step, take_fits, members_forward, fills_accepted b ds others h)

-- The members of a call, backward.

abbrev pub has_no_members : List Shape → Bool
has_no_members ds = list_all (λ d. not (is_member_shape d)) ds

-- the lines begin with the nodes of a set, and the others are accepted after them
pub record SplitsAt (b : Basin) (ds : List Shape) (must : Bool) (k n : ℕ) (items : List Item) : Type 0 where
  pub set : List Bool
  pub sized : length set ≡ n
  pub some : must ≡ true → list_any (λ x. x) set ≡ true
  pub others : List Item
  pub are : items ≡ map (λ n. line.Member n) (members_from k set) ++ others
  pub rest : accepts b false ds others ≡ true

pub no_member_due : (b : Basin) (ds : List Shape) (i : Item) → has_no_members ds ≡ true → is_member i ≡ true →
    take_line b ds i ≡ None
no_member_due b [] i h m = refl
no_member_due b (d ∷ ds) i h m =
    grind (
      arith,
      and_parts,
      fits_shape,
      take_skips,
      take_stops,
      no_member_due b ds i (and_parts (not (is_member_shape d)) (has_no_members ds) h).1 m,
    )

-- a line that an `in` line fits is that `in` line
pub member_only : (b : Basin) (k : ℕ) (i : Item) → fits b (shape.Member k) i ≡ true → i ≡ line.Member k
member_only b k i h = grind (arith, fits_shape)

skipped : {b : Basin} {ds : List Shape} {must : Bool} {k n : ℕ} {items : List Item} →
    SplitsAt b ds must (suc k) n items → SplitsAt b ds must k (suc n) items
unfolding members_from
skipped s = record {
  set = false ∷ s.set;
  sized = ap suc s.sized;
  some = s.some;
  others = s.others;
  are = s.are;
  rest = s.rest;
}

members_back : (b : Basin) (ds : List Shape) → has_no_members ds ≡ true → (n k : ℕ) (must : Bool) (items : List Item) →
    accepts b must (nodes_from k n ++ ds) items ≡ true → SplitsAt b ds must k n items
unfolding numbers_from members_from
members_back b ds clean zero k false items h =
    record { set = []; sized = refl; some = λ no. cc; others = items; are = refl; rest = h }
members_back b ds clean zero k true [] h = let no : false ≡ true = h in cc
members_back b ds clean zero k true (i ∷ is) h = by_step (steps_to b true ds i is h) (is_member i) refl
  where
    by_step : StepsTo b true ds i is → (m : Bool) → is_member i ≡ m → SplitsAt b ds true k zero (i ∷ is)
    by_step s true m =
        let none : None ≡ Some s.0 =
        sym (no_member_due b ds i clean m) ∙ (sym (step_open b true ds i (ap not m)) ∙ s.1) in
        cc
    by_step s false m =
        let none : None ≡ Some s.0 = sym (step_shut b true ds i (ap not m)) ∙ s.1 in
        cc
members_back b ds clean (suc n) k must [] h = skipped (members_back b ds clean n (suc k) must [] h)
members_back b ds clean (suc n) k must (i ∷ is) h =
    by_fit (fits b (shape.Member k) i) refl (steps_to b must (shape.Member k ∷ (nodes_from (suc k) n ++ ds)) i is h)
    (λ m xs j. members_back b ds clean n (suc k) m xs j) (must && not (is_member i)) refl
  where
    taken : i ≡ line.Member k → SplitsAt b ds false (suc k) n is → SplitsAt b ds must k (suc n) (i ∷ is)
    taken here s = record {
      set = true ∷ s.set;
      sized = ap suc s.sized;
      some = λ _. refl;
      others = s.others;
      are = let rest : is ≡ map (λ n. line.Member n) (members_from (suc k) s.set) ++ s.others = s.are in cc;
      rest = s.rest;
    }

    by_fit : (f : Bool) → fits b (shape.Member k) i ≡ f →
        StepsTo b must (shape.Member k ∷ (nodes_from (suc k) n ++ ds)) i is →
        ((m : Bool) (xs : List Item) → accepts b m (nodes_from (suc k) n ++ ds) xs ≡ true →
        SplitsAt b ds m (suc k) n xs) →
        (g : Bool) → must && not (is_member i) ≡ g → SplitsAt b ds must k (suc n) (i ∷ is)
    by_fit f e s further true g =
        let none : None ≡ Some s.0 =
        sym (step_shut b must (shape.Member k ∷ (nodes_from (suc k) n ++ ds)) i g) ∙ s.1 in cc
    by_fit true e s further false g =
        let here : i ≡ line.Member k = member_only b k i e in
        let opens : opened b i ++ (nodes_from (suc k) n ++ ds) ≡ nodes_from (suc k) n ++ ds = rw here refl in
        let left : Some (opened b i ++ (nodes_from (suc k) n ++ ds)) ≡ Some s.0 =
        sym (take_fits b (shape.Member k) (nodes_from (suc k) n ++ ds) i e)
        ∙ (sym (step_open b must (shape.Member k ∷ (nodes_from (suc k) n ++ ds)) i g) ∙ s.1) in
        let is_left : s.0 ≡ nodes_from (suc k) n ++ ds = cc in
        let plainly : is_call i ≡ false = ap is_call here in
        taken here (further false is (rw (← is_left, ← plainly) s.2))
    by_fit false e s further false g =
        let left : step b must (nodes_from (suc k) n ++ ds) i ≡ Some s.0 =
        step_open b must (nodes_from (suc k) n ++ ds) i g
        ∙ (sym (take_skips b (shape.Member k) (nodes_from (suc k) n ++ ds) i e refl)
        ∙ (sym (step_open b must (shape.Member k ∷ (nodes_from (suc k) n ++ ds)) i g) ∙ s.1)) in
        skipped (further must (i ∷ is) (accepts_step b must (nodes_from (suc k) n ++ ds) s.0 i is left ∙ s.2))

-- What is accepted fills.

pub accepted_fills : (b : Basin) (ds : List Shape) (items : List Item) → has_no_members ds ≡ true →
    accepts b false ds items ≡ true → Fills b ds items
accepted_fills b [] [] clean h = refl
accepted_fills b [] (i ∷ is) clean h = let no : false ≡ true = h in cc
accepted_fills b (d ∷ ds) [] clean h =
    inl (
      (and_parts (is_optional d) (list_all is_optional ds) h).0,
      accepted_fills b ds [] (and_parts (not (is_member_shape d)) (has_no_members ds) clean).1
          (and_parts (is_optional d) (list_all is_optional ds) h).1,
    )
accepted_fills b (d ∷ ds) (i ∷ is) clean h =
    by_fit (fits b d i) refl (is_optional d) refl (steps_to b false (d ∷ ds) i is h)
    (λ xs j. accepted_fills b ds xs (and_parts (not (is_member_shape d)) (has_no_members ds) clean).1 j)
  where
    by_fit : (f : Bool) → fits b d i ≡ f → (p : Bool) → is_optional d ≡ p → StepsTo b false (d ∷ ds) i is →
        ((xs : List Item) → accepts b false ds xs ≡ true → Fills b ds xs) → Fills b (d ∷ ds) (i ∷ is)
    by_fit true e p q s further = by_item (plain b i)
      where
        left : accepts b (is_call i) (opened b i ++ ds) is ≡ true
        left = let same : Some (opened b i ++ ds) ≡ Some s.0 = sym (take_fits b d ds i e) ∙ s.1 in
            let is_left : opened b i ++ ds ≡ s.0 = cc in rw is_left s.2

        by_item : IsPlain b i → Fills b (d ∷ ds) (i ∷ is)
        by_item (call right here) =
            let split : SplitsAt b ds true 0 (length b.nodes) is =
            members_back b ds (and_parts (not (is_member_shape d)) (has_no_members ds) clean).1 (length b.nodes) 0 true
            is (rw here at left) in
            inr (
              i,
              map (λ n. line.Member n) (members_from 0 split.set),
              split.others,
              e,
              subst (λ (x : Item). IsFollowedBy b x (map (λ n. line.Member n) (members_from 0 split.set))) (sym here)
                  (split.set, split.sized, split.some refl, refl),
              ap (λ xs. i ∷ xs) split.are,
              further split.others split.rest,
            )
        by_item (other none still nothing empty) =
            inr (i, [], is, e, empty, refl, further is (rw (none, still) at left))
    by_fit false e true q s further =
        let left : step b false ds i ≡ Some s.0 = sym (take_skips b d ds i e q) ∙ s.1 in
        inl (q, further (i ∷ is) (accepts_step b false ds s.0 i is left ∙ s.2))
    by_fit false e false q s further = let none : None ≡ Some s.0 = sym (take_stops b d ds i e q) ∙ s.1 in cc
