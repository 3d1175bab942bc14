-- What is listed of links and rights, beside their records.
use Rattle.std.proofs.Common.{ℕ, ◌≡◌, ◌+◌, ◌<◌, List, [], ◌∷◌, map, length, get_or, refl, ap, sym, ◌∙◌, zero, suc}
use Rattle.std.proofs.Common.{arith}
use Rattle.std.proofs.lemmas.List.{get_or-map, length-map}
use Rattle.water_model.specs.Network.{tail_in}
use Rattle.water_model.specs.Rights.{priority, priority_in}
use Rattle.water_model.specs.declared.types.Link.{Link}
use Rattle.water_model.specs.declared.types.Right.{Right}
use Rattle.rights_roll.proofs.SameSeniority.{priority_in-is}
use Rattle.rights_roll.specs.Priorities.{numbers_of}
use Rattle.rights_roll.specs.declared.priority.Priority.{Priority}

-- the list of tails, index by index
pub tails_are : (links : List Link) (e d : ℕ) → e < length links →
    get_or (map (λ (l : Link). l.from) links) e d ≡ tail_in links e
tails_are [] e d l = absurd (omega arith)
tails_are (x ∷ links) zero d l = refl
tails_are (x ∷ links) (suc e) d l = tails_are links e d (omega arith)

-- what is listed of a right is its priority
pub listed_is : (ps : List Priority) (rights : List Right) (r : ℕ) (p : Priority) →
    map numbers_of ps ≡ map priority rights → r < length rights → p ≡ get_or ps r p →
    numbers_of p ≡ priority_in rights r
listed_is ps rights r p same l at =
    let count = ap (λ (xs : List (List ℕ)). length xs) same in
    let within : r < length ps = omega (arith, l, count, length-map ps numbers_of, length-map rights priority) in
    ap numbers_of at
    ∙ sym (get_or-map numbers_of ps r p [] within)
    ∙ ap (λ (xs : List (List ℕ)). get_or xs r []) same
    ∙ sym (priority_in-is rights r)
