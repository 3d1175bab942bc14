-- Lines that no row holds of.
use Rattle.std.proofs.Common.{◌≡◌, ℕ, Bool, true, false, refl, sym, arith, inl, inr, List, [], ◌∷◌, ◌++◌, map, fold}
use Rattle.std.specs.Prelude.{Some, None, ◌&&◌, ◌==◌, not, find, option_map, is_none}
use Rattle.std.specs.List.{list_any}
use Rattle.std.proofs.lemmas.Bool.Decides.{nat_tests}
use Rattle.std.proofs.lemmas.Bool.{or_parts}
use Rattle.std.proofs.Math.Bool.{and-false}
use Rattle.water_model.specs.History.{cut_of}
use Rattle.water_model.specs.Indices.{indices_of}
use Rattle.result_lines.specs.declared.item.Item.{Item}
use Rattle.result_lines.specs.declared.item.Item.TheVariants as line
use Rattle.water_model.specs.declared.types.Basin.{Basin}
use Rattle.water_model.specs.declared.types.Series.{Series}
use Rattle.water_model.proofs.Order.{Has}
use Rattle.result_reader.specs.Due.{is_member}
use Rattle.result_reader.specs.ReadSoFar.{ReadSoFar, read_item}
use Rattle.cut_cert.specs.Callers.{is_short}
use Rattle.cert_check.specs.Checking.{Row, rows, own_rows, first_row, passes, cut_needless, called_wrong}
use Rattle.cert_check.specs.FirstRows.{first_of}
use Rattle.cert_check.specs.declared.refuted.RefutedKind.{RefutedKind}

-- no row of the list holds
abbrev pub NoneHolds : List Row → Type 0
NoneHolds [] = Unit {0}
NoneHolds (row ∷ others) = (row.1 ≡ false) × NoneHolds others

pub none_found : (xs : List Row) → option_map (λ (row : Row). row.0) (find (λ (row : Row). row.1) xs) ≡ None →
    NoneHolds xs
none_found [] h = tt
none_found ((kind, true) ∷ xs) h = cc
none_found ((kind, false) ∷ xs) h = (refl, none_found xs h)

pub found_none : (xs : List Row) → NoneHolds xs →
    option_map (λ (row : Row). row.0) (find (λ (row : Row). row.1) xs) ≡ None
found_none [] h = refl
found_none ((kind, holds) ∷ xs) h = rw (h.0) (found_none xs h.1)

-- Lines after others, of which no row holds.
abbrev pub AreGood : Basin → Series → ReadSoFar → List Item → Type 0
AreGood b series t [] = Unit {0}
AreGood b series t (i ∷ is) = NoneHolds (rows b series t i) × AreGood b series (read_item b series t i) is

pub good_row : (b : Basin) (series : Series) (t : ReadSoFar) (i : Item) → first_row b series t i ≡ None →
    NoneHolds (rows b series t i)
unfolding first_row
good_row b series t i h = none_found (rows b series t i) h

pub row_good : (b : Basin) (series : Series) (t : ReadSoFar) (i : Item) → NoneHolds (rows b series t i) →
    first_row b series t i ≡ None
unfolding first_row
row_good b series t i h = found_none (rows b series t i) h

pub good_both : (b : Basin) (series : Series) (t : ReadSoFar) (xs ys : List Item) → AreGood b series t xs →
    AreGood b series (fold (read_item b series) t xs) ys → AreGood b series t (xs ++ ys)
good_both b series t [] ys g k = k
good_both b series t (x ∷ xs) ys g k = (g.0, good_both b series (read_item b series t x) xs ys g.1 k)

pub good_first : (b : Basin) (series : Series) (t : ReadSoFar) (xs ys : List Item) → AreGood b series t (xs ++ ys) →
    AreGood b series t xs
good_first b series t [] ys g = tt
good_first b series t (x ∷ xs) ys g = (g.0, good_first b series (read_item b series t x) xs ys g.1)

pub good_rest : (b : Basin) (series : Series) (t : ReadSoFar) (xs ys : List Item) → AreGood b series t (xs ++ ys) →
    AreGood b series (fold (read_item b series) t xs) ys
good_rest b series t [] ys g = g
good_rest b series t (x ∷ xs) ys g = good_rest b series (read_item b series t x) xs ys g.1

pub good_parts : (b : Basin) (series : Series) (t : ReadSoFar) (xs ys : List Item) → AreGood b series t (xs ++ ys) →
    AreGood b series t xs × AreGood b series (fold (read_item b series) t xs) ys
good_parts b series t xs ys g = (good_first b series t xs ys g, good_rest b series t xs ys g)

-- Lines, one for each index, after which something that the row of an index needs stays.
pub record Section (b : Basin) (series : Series) (P : ReadSoFar → Type 0) (good : ℕ → Type 0) (item : ℕ →
    Item) : Type 0 where
  pub makes : (x : ℕ) (t : ReadSoFar) → P t → good x → NoneHolds (rows b series t (item x))
  pub reads : (x : ℕ) (t : ReadSoFar) → P t → NoneHolds (rows b series t (item x)) → good x
  pub keeps : (x : ℕ) (t : ReadSoFar) → P t → P (read_item b series t (item x))

pub section_good : {b : Basin} {series : Series} {P : ReadSoFar → Type 0} {good : ℕ → Type 0} {item : ℕ → Item} →
    Section b series P good item →
    (xs : List ℕ) {t : ReadSoFar} → P t → ((x : ℕ) → Has xs x → good x) → AreGood b series t (map item xs)
section_good s [] p h = tt
section_good {b} {series} {P} {good} {item} s (x ∷ xs) {t} p h = (
  s.makes x t p (h x (inl refl)),
  section_good s xs (s.keeps x t p)
      (λ y m. h y (inr m)),
)

pub good_section : {b : Basin} {series : Series} {P : ReadSoFar → Type 0} {good : ℕ → Type 0} {item : ℕ → Item} →
    Section b series P good item →
    (xs : List ℕ) (t : ReadSoFar) → P t → AreGood b series t (map item xs) → (x : ℕ) → Has xs x → good x
good_section s [] t p g y m = absurd m
good_section {b} {series} {P} {good} s (x ∷ xs) t p g y (inl is) = subst_good (sym is)
  where
    subst_good : x ≡ y → good y
    subst_good e = rw (← e) (s.reads x t p g.0)
good_section {b} {series} {P} {good} {item} s (x ∷ xs) t p g y (inr m) =
    good_section s xs (read_item b series t (item x)) (s.keeps x t p) g.1 y m

pub section_keeps : {b : Basin} {series : Series} {P : ReadSoFar → Type 0} {good : ℕ → Type 0} {item : ℕ → Item} →
    Section b series P good item → (xs : List ℕ) {t : ReadSoFar} → P t → P (fold (read_item b series) t (map item xs))
section_keeps s [] p = p
section_keeps {b} {series} {P} {good} {item} s (x ∷ xs) {t} p = section_keeps s xs (s.keeps x t p)

-- A test of the numbers of a list.
pub none_holds : {p : ℕ → Bool} (xs : List ℕ) → ((x : ℕ) → Has xs x → p x ≡ false) → list_any p xs ≡ false
none_holds [] h = refl
none_holds {p} (x ∷ xs) h = rw (h x (inl refl)) (none_holds {p = p} xs (λ y m. h y (inr m)))

pub each_fails : (p : ℕ → Bool) (xs : List ℕ) → list_any p xs ≡ false → {x : ℕ} → Has xs x → p x ≡ false
each_fails p [] h m = absurd m
each_fails p (y ∷ ys) h (inl is) = rw is (or_parts (p y) (list_any p ys) h).0
each_fails p (y ∷ ys) h (inr m) = each_fails p ys (or_parts (p y) (list_any p ys) h).1 m

-- nothing is passed over before the `call` lines
nothing_passed : (b : Basin) (t : ReadSoFar) (i : Item) → ((r : ℕ) → passes b i r ≡ false) → (xs : List ℕ) →
    list_any (λ r. is_short t.now r && is_none (cut_of t.now r) && passes b i r) xs ≡ false
nothing_passed b t i h xs = none_holds xs (λ r m. rw (h r) (and-false (is_short t.now r && is_none (cut_of t.now r))))

-- of a line before the `call` lines only the row of its own kind can hold
pub early_good : (b : Basin) (series : Series) (t : ReadSoFar) (i : Item) → t.calling ≡ None →
    ((r : ℕ) → passes b i r ≡ false) → cut_needless t i ≡ false → called_wrong b t i ≡ false →
    NoneHolds (own_rows b series t i) → NoneHolds (rows b series t i)
early_good b series t i none passed needless called own =
    grind (arith, nat_tests, and-false, not, is_member, nothing_passed, indices_of)

-- Tests of numbers.
pub is_same : {x y : ℕ} → not (x == y) ≡ false → x ≡ y
is_same h = grind (arith, nat_tests)

pub same_is : {x y : ℕ} → x ≡ y → not (x == y) ≡ false
same_is h = grind (arith, nat_tests)

-- an `in` line is never refuted
pub member_good : (b : Basin) (series : Series) (t : ReadSoFar) (n : ℕ) → NoneHolds (rows b series t (line.Member n))
member_good b series t n =
    (refl, (nothing_passed b t (line.Member n) (λ r. refl) (indices_of b.rights), (refl, (refl, tt))))

pub members_good : (b : Basin) (series : Series) (xs : List ℕ) (t : ReadSoFar) →
    AreGood b series t (map (λ n. line.Member n) xs)
members_good b series [] t = tt
members_good b series (x ∷ xs) t =
    (member_good b series t x, members_good b series xs (read_item b series t (line.Member x)))

-- The first row that holds, in parts.

found : (xs : List Row) → option_map (λ (row : Row). row.0) (find (λ (row : Row). row.1) xs) ≡ first_of xs
found [] = refl
found ((kind, true) ∷ xs) = refl
found ((kind, false) ∷ xs) = found xs

pub first_is : (b : Basin) (series : Series) (t : ReadSoFar) (i : Item) →
    first_row b series t i ≡ first_of (rows b series t i)
unfolding first_row
first_is b series t i = found (rows b series t i)

-- the first of some rows and others
pub some_first : (xs ys : List Row) {kind : RefutedKind} → first_of xs ≡ Some kind → first_of (xs ++ ys) ≡ Some kind
some_first [] ys h = cc
some_first ((k, true) ∷ xs) ys h = h
some_first ((k, false) ∷ xs) ys {kind} h = some_first xs ys h

pub none_first : (xs ys : List Row) → first_of xs ≡ None → first_of (xs ++ ys) ≡ first_of ys
none_first [] ys h = refl
none_first ((k, true) ∷ xs) ys h = cc
none_first ((k, false) ∷ xs) ys h = none_first xs ys h

-- What is known stays while what was read stays.
