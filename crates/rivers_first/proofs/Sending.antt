-- An amount that is sent over a round: what holds when the steps before `at` are done.
use Rattle.std.proofs.Common.{ℕ, Bool, true, false, not, ◌≡◌, ◌≢◌, ◌+◌, ◌^◌, ◌<◌, ◌≤◌, List, [], length, slice_index}
use Rattle.std.proofs.Common.{◌==◌, ◌⊎◌, ◌-◌, All, min, get_or, slice_set, refl, arith, ap, sym, subst, inl, inr, ◌∙◌}
use Rattle.std.proofs.lemmas.Bool.{cases_lt}
use Rattle.std.proofs.lemmas.Bool.Decides.{eqb_tells}
use Rattle.std.proofs.lemmas.List.{get_or-map, get_or-set_same, get_or-set_other, length-set}
use Rattle.finite_sums.specs.Sums.{when}
use Rattle.water_model.specs.Basin.{is_river}
use Rattle.water_model.specs.declared.types.Basin.{Basin}
use Rattle.circulation.specs.Network.{Network, IsFlow, inflow, outflow}
use Rattle.circulation.specs.Residual.{arc_of, is_backward, by_direction, start_of, room_of, IsClosedWalk}
use Rattle.circulation.proofs.Pushing.{IsPushing, pushing_start, pushing_next, change_fits}
use Rattle.rivers_first.specs.declared.instream.InstreamSpan.{InstreamSpan}
use Rattle.rivers_first.specs.Rounds.{canal_of, links_above, HasRounds, IsRound, IsDown}
use Rattle.rivers_first.specs.Sent.{IsWithin, IsSent, HasFullRiver, IsRoomOfOne, IsRelieved, IsRelievedIfDown}

-- the links of the basin with what is kept on them
abbrev pub net : Basin → List ℕ → Network
net b kept = links_above b (slice_index kept)

-- the steps have room for the amount
abbrev pub HasRoom : Basin → (kept flow round : List ℕ) → ℕ → Type 0
HasRoom b kept flow round amount = (i : ℕ) → i < length round →
    amount ≤ room_of (net b kept) (slice_index flow) (slice_index round i)

pub record IsSending (b : Basin) (kept old new round : List ℕ) (at amount : ℕ) : Type 0 where
  pub size : length new ≡ length b.links
  pub pushing : IsPushing (net b kept) (slice_index old) (slice_index new) (slice_index round) 0 (length round) at
      amount
  pub canals : (e : ℕ) → e < length b.links → is_river b e ≡ false → slice_index new e ≤ slice_index old e

pub within_flow : (b : Basin) (kept flow : List ℕ) → IsWithin b kept flow → IsFlow (net b kept) (slice_index flow)
within_flow b kept flow h = record { low = h.low; high = h.high; balanced = λ v l. absurd (omega arith) }

pub round_closed : (b : Basin) (kept flow round : List ℕ) (amount : ℕ) → IsRound b round → 0 < amount →
    HasRoom b kept flow round amount →
    IsClosedWalk (net b kept) (slice_index flow) (slice_index round) 0 (length round) amount
round_closed b kept flow round amount is some room = record {
  some = is.canal.some;
  positive = some;
  arc = λ i a l. (is.steps i l).link;
  room = λ i a l. room i l;
  joined = λ i a l. (is.steps i (omega arith)).joined l;
  closed = λ i l. (is.steps i (omega arith)).closed l;
  once = λ i j a c l. (is.steps j l).once i c;
}

pub sending_start : (b : Basin) (kept old round : List ℕ) (amount : ℕ) → IsRound b round → IsWithin b kept old →
    IsSending b kept old old round 0 amount
sending_start b kept old round amount is within = record {
  size = within.count;
  pushing = pushing_start (net b kept) (slice_index old) (slice_index round) 0 (length round) amount is.canal.some
      (within_flow b kept old within);
  canals = λ e l h. omega arith;
}

-- the next step can be done
pub sending_fits : (b : Basin) (kept old new round : List ℕ) (at amount : ℕ) → IsRound b round → IsWithin b kept old →
    0 < amount → HasRoom b kept old round amount → IsSending b kept old new round at amount → at < length round →
    (is_backward (slice_index round at) ≡ true → amount ≤ slice_index new (arc_of (slice_index round at))) ×
    (is_backward (slice_index round at) ≡ false → slice_index new (arc_of (slice_index round at)) + amount < 2 ^ 64)
sending_fits b kept old new round at amount is within some room now l =
    let fits = change_fits (net b kept) (slice_index old) (slice_index new) (slice_index round) 0 (length round) at
    amount
    (within_flow b kept old within) (round_closed b kept old round amount is some room) now.pushing (omega arith) l in
    (fits.0, λ e. omega (arith, fits.1 e))

-- a step lessens what a canal carries, or goes over a river
falls : (b : Basin) (round : List ℕ) (at amount before after : ℕ) → IsRound b round → at < length round →
    is_river b (arc_of (slice_index round at)) ≡ false →
    after + when (is_backward (slice_index round at)) amount ≡ before + when
    (not (is_backward (slice_index round at))) amount → after ≤ before
falls b round at amount before after is l canal change = elim (eqb_tells at 0) [
  | inl e ↦
      let back = subst (λ (n : ℕ). is_backward (slice_index round n) ≡ true) (sym e.1) is.canal.back in
      let down = subst (λ (t : Bool). after + when t amount ≡ before + when (not t) amount) back change in
      omega arith
  | inr e ↦ let never : true ≡ false = sym ((is.steps at l).river (omega arith)) ∙ canal in cc
]

-- and that was done
pub sending_next : (b : Basin) (kept old new round : List ℕ) (at amount value : ℕ) → IsRound b round →
    IsWithin b kept old → 0 < amount → HasRoom b kept old round amount → IsSending b kept old new round at amount →
    at < length round →
    value + when (is_backward (slice_index round at)) amount
    ≡ slice_index new (arc_of (slice_index round at)) + when (not (is_backward (slice_index round at))) amount →
    IsSending b kept old (slice_set new (arc_of (slice_index round at)) value) round (at + 1) amount
sending_next b kept old new round at amount value is within some room now l change =
    let arc = arc_of (slice_index round at) in
    let next = slice_set new arc value in
    let inside : arc < length new = let size = now.size in let link = (is.steps at l).link in omega arith in
    let here : slice_index next arc ≡ value = get_or-set_same new arc value 0 inside in
    let there = λ (a : ℕ) (ne : a ≢ arc). get_or-set_other new arc a value 0 ne in
    record {
      size = length-set new arc value ∙ now.size;
      pushing = pushing_next (net b kept) (slice_index old) (slice_index new) (slice_index next) (slice_index round) 0
          (length round) at amount (within_flow b kept old within)
          (round_closed b kept old round amount is some room) now.pushing (omega arith) l
          (ap (λ (n : ℕ). n + when (is_backward (slice_index round at)) amount) here ∙ change) there;
      canals = λ e k canal. elim (eqb_tells e arc) [
        | inl s ↦
            let less = falls b round at amount (slice_index new arc) value is l
            (subst (λ (n : ℕ). is_river b n ≡ false) s.1 canal) change in
            let before = subst (λ (n : ℕ). slice_index new n ≤ slice_index old n) s.1 (now.canals e k canal) in
            subst (λ (n : ℕ). slice_index next n ≤ slice_index old n) (sym s.1) (omega (arith, less, before, here))
        | inr s ↦ omega (arith, now.canals e k canal, there e s.1)
      ];
    }

-- when all steps are done the amount was sent
pub sending_end : (b : Basin) (kept old new round : List ℕ) (at amount : ℕ) → at ≡ length round →
    IsSending b kept old new round at amount → IsSent b kept old new
sending_end b kept old new round at amount end now = record {
  within = record { count = now.size; low = now.pushing.low; high = now.pushing.high };
  canals = now.canals;
  nodes = λ v.
      let first = start_of (net b kept) (slice_index round 0) in
      let moved : outflow (net b kept) (slice_index new) v + inflow (net b kept) (slice_index old) v
      + when (first == v) amount
      ≡ outflow (net b kept) (slice_index old) v + inflow (net b kept) (slice_index new) v
      + when (first == v) amount =
      now.pushing.moved first (λ c. absurd (omega arith)) (λ c. refl) v in
      omega arith;
}

-- nothing was sent
pub sent_nothing : (b : Basin) (kept flow : List ℕ) → IsWithin b kept flow → IsSent b kept flow flow
sent_nothing b kept flow h = record { within = h; canals = λ e l c. omega arith; nodes = λ v. refl }

-- and then more
pub sent_then : (b : Basin) (kept x y z : List ℕ) → IsSent b kept x y → IsSent b kept y z → IsSent b kept x z
sent_then b kept x y z h k = record {
  within = k.within;
  canals = λ e l c. omega (arith, h.canals e l c, k.canals e l c);
  nodes = λ v. omega (arith, h.nodes v, k.nodes v);
}

-- the least of the rooms of the first steps
pub one_next : (b : Basin) (kept flow round : List ℕ) (at least room less : ℕ) →
    IsRoomOfOne b kept flow round at least →
    room ≡ room_of (net b kept) (slice_index flow) (slice_index round at) → less ≡ min least room →
    IsRoomOfOne b kept flow round (at + 1) less
one_next b kept flow round at least room less one is_room is_least = elim (cases_lt room least) [
  | inl below ↦ inr (at, (omega arith, (let same : less ≡ room = omega arith in same ∙ is_room)))
  | inr above ↦ let same : less ≡ least = omega arith in elim one [
    | inl e ↦ inl (same ∙ e)
    | inr (i, of) ↦ let l = of.0 in inr (i, (omega arith, same ∙ of.1))
  ]
]

-- of fewer steps, of more
pub one_of_more : (b : Basin) (kept flow round : List ℕ) (count more amount : ℕ) → count ≤ more →
    IsRoomOfOne b kept flow round count amount → IsRoomOfOne b kept flow round more amount
one_of_more b kept flow round count more amount le one = elim one [
  | inl e ↦ inl e
  | inr (i, of) ↦ let l = of.0 in inr (i, (omega arith, of.1))
]

-- each step of the round changed its link by the amount
abbrev pub IsChanged : (old new round : List ℕ) → ℕ → Type 0
IsChanged old new round amount = (i : ℕ) → i < length round →
    slice_index new (arc_of (slice_index round i)) + when (is_backward (slice_index round i)) amount
    ≡ slice_index old (arc_of (slice_index round i)) + when (not (is_backward (slice_index round i))) amount

pub not_changed : (old round : List ℕ) → IsChanged old old round 0
not_changed old round i l = none (is_backward (slice_index round i)) (slice_index old (arc_of (slice_index round i)))
  where
    none : (t : Bool) (x : ℕ) → x + when t 0 ≡ x + when (not t) 0
    none true x = refl
    none false x = refl

-- Where as much was sent as the least room of a round that goes down rivers alone, its canal has no more than what is
-- kept on it, or a river is full.
pub relieved : (b : Basin) (kept old new round : List ℕ) (amount : ℕ) → IsRound b round → IsWithin b kept old →
    IsDown round → HasRoom b kept old round amount → IsRoomOfOne b kept old round (length round) amount →
    IsChanged old new round amount → IsRelieved kept new round ⊎ HasFullRiver b new
relieved b kept old new round amount is within down room one changed =
    let canal = arc_of (slice_index round 0) in
    let some : 0 < length round = is.canal.some in
    let inside : canal < length b.links = (is.steps 0 some).link in
    let falls : slice_index new canal + amount ≡ slice_index old canal + 0 =
    subst (λ (t : Bool). slice_index new canal + when t amount ≡ slice_index old canal + when (not t) amount)
    is.canal.back (changed 0 some) in
    let least : amount ≤ slice_index old canal - slice_index kept canal =
    subst (λ (t : Bool). amount ≤ by_direction t (10 ^ 15 - slice_index old canal)
    (slice_index old canal - slice_index kept canal)) is.canal.back (room 0 some) in
    let low = within.low canal inside in
    let high = within.high canal inside in
    elim one [
      | inl e ↦ inl (omega arith)
      | inr (i, of) ↦ let l = of.0 in let e = of.1 in elim (eqb_tells i 0) [
        | inl z ↦
            let its : amount ≡ slice_index old canal - slice_index kept canal =
            subst (λ (t : Bool). amount ≡ by_direction t (10 ^ 15 - slice_index old canal)
            (slice_index old canal - slice_index kept canal)) is.canal.back
            (subst (λ (n : ℕ). amount ≡ room_of (net b kept) (slice_index old) (slice_index round n)) z.1 e) in
            inl (omega arith)
        | inr z ↦
            let river = arc_of (slice_index round i) in
            let forward : is_backward (slice_index round i) ≡ false = down.forward i (omega arith) l in
            let its : amount ≡ 10 ^ 15 - slice_index old river =
            subst (λ (t : Bool). amount ≡ by_direction t (10 ^ 15 - slice_index old river)
            (slice_index old river - slice_index kept river)) forward e in
            let rises : slice_index new river + 0 ≡ slice_index old river + amount =
            subst (λ (t : Bool). slice_index new river + when t amount ≡ slice_index old river + when (not t) amount)
            forward (changed i l) in
            let there = (is.steps i l).link in
            let most = within.high river there in
            inr record { link = river; in_range = there; full = omega arith }
      ]
    ]

-- what was relieved stays so, and one round more is
pub relieved_next : (b : Basin) (kept old now new : List ℕ) (rounds : List (List ℕ)) (at : ℕ) (d : List ℕ) →
    All (IsRound b) rounds → at < length rounds → IsSent b kept old now → IsSent b kept now new →
    (IsDown (get_or rounds at d) → IsRelieved kept new (get_or rounds at d) ⊎ HasFullRiver b new) →
    ((k : ℕ) → k < at → IsRelievedIfDown b kept old now (get_or rounds k d)) →
    (k : ℕ) → k < at + 1 → IsRelievedIfDown b kept old new (get_or rounds k d)
relieved_next b kept old now new rounds at d are within before sent one others k l down = elim (eqb_tells k at) [
  | inl e ↦ elim (one (subst (λ (n : ℕ). IsDown (get_or rounds n d)) e.1 down)) [
    | inl h ↦ inl (subst (λ (n : ℕ). IsRelieved kept new (get_or rounds n d)) (sym e.1) h)
    | inr full ↦ inr record { flow = new; sent = sent_then b kept old now new before sent; full = full }
  ]
  | inr e ↦ elim (others k (omega arith) down) [
    | inl h ↦
        let is : IsRound b (get_or rounds k d) = are k d (omega arith) in
        let less = sent.canals (arc_of (slice_index (get_or rounds k d) 0)) (is.steps 0 is.canal.some).link
        is.canal.canal in
        inl (omega arith)
    | inr fill ↦ inr fill
  ]
]

-- the canal of a round is one of the links
pub canal_inside : {b : Basin} {rounds : List (List ℕ)} {kept canals again : List ℕ} {span : InstreamSpan} →
    HasRounds b rounds kept canals again span →
    (at d : ℕ) → at < length rounds → get_or canals at d < length b.links
canal_inside {rounds = rounds} h at d l =
    let round = h.are.each at [] l in
    let is = ap (λ (xs : List ℕ). get_or xs at d) h.canals_are ∙ get_or-map canal_of rounds at [] d l in
    omega (arith, is, (round.steps 0 round.canal.some).link)
