-- Rounds: closed walks of the residual network that take water off a canal, and give it to rivers.
use Rattle.std.specs.Prelude.{◌≡◌, ◌≢◌, ◌⊎◌, ℕ, ◌+◌, ◌<◌, ◌≤◌, ◌^◌, true, false, None, All, List, length, map}
use Rattle.std.specs.Prelude.{slice_index, Option, Some}
use Rattle.water_model.specs.Basin.{tail_of, head_of, is_river, instream_link}
use Rattle.water_model.specs.declared.types.Basin.{Basin}
use Rattle.rivers_first.specs.declared.instream.InstreamSpan.{InstreamSpan}
use Rattle.circulation.specs.Network.{Network}
use Rattle.circulation.specs.Residual.{arc_of, is_backward, start_of, end_of}

-- the links of a basin, each of which keeps at least an amount, and carries no more than a river. It says nothing of
-- what comes to nodes
abbrev pub links_above : Basin → (ℕ → ℕ) → Network
links_above b kept = record {
  nodes = 0;
  arcs = length b.links;
  from = λ e. tail_of b e;
  to = λ e. head_of b e;
  supply = λ v. 0;
  lower = kept;
  upper = λ e. 10 ^ 15;
}

-- the node that a step over a link leaves
abbrev pub starts_at : Basin → ℕ → Option ℕ
starts_at b step = Some (start_of (links_above b (λ e. 0)) step)

-- the first step goes back over a canal
pub record BeginsOnCanal (b : Basin) (round : List ℕ) : Type 0 where
  pub some : 0 < length round
  pub back : is_backward (slice_index round 0) ≡ true
  pub canal : is_river b (arc_of (slice_index round 0)) ≡ false

-- the step goes over a link that none before it goes over, and that is a river unless the step is the first; and the
-- next one begins where it ends, after the last step the first one
pub record GoesOn (b : Basin) (round : List ℕ) (at : ℕ) : Type 0 where
  pub link : arc_of (slice_index round at) < length b.links
  pub river : 0 < at → is_river b (arc_of (slice_index round at)) ≡ true
  pub joined : at + 1 < length round →
      end_of (links_above b (λ e. 0)) (slice_index round at)
      ≡ start_of (links_above b (λ e. 0)) (slice_index round (at + 1))
  pub closed : at + 1 ≡ length round →
      end_of (links_above b (λ e. 0)) (slice_index round at)
      ≡ start_of (links_above b (λ e. 0)) (slice_index round 0)
  pub once : (i : ℕ) → i < at → arc_of (slice_index round i) ≢ arc_of (slice_index round at)

-- back over a canal, and then over rivers, down or up, from where the canal begins to where it ends
pub record IsRound (b : Basin) (round : List ℕ) : Type 0 where
  pub canal : BeginsOnCanal b round
  pub steps : (at : ℕ) → at < length round → GoesOn b round at

-- after the canal it goes down rivers alone
pub record IsDown (round : List ℕ) : Type 0 where
  pub forward : (at : ℕ) → 0 < at → at < length round → is_backward (slice_index round at) ≡ false

-- what contracts see of a basin's rounds: with them, room for an amount of each link
pub record RoundsView : Type 0 where
  pub basin : Basin
  pub rounds : List (List ℕ)
  pub kept : List ℕ

pub record AreRounds (v : RoundsView) : Type 0 where
  pub each : All (IsRound v.basin) v.rounds
  pub room : length v.kept ≡ length v.basin.links

-- the canal that a round takes water off
abbrev pub canal_of : List ℕ → ℕ
canal_of round = arc_of (slice_index round 0)

-- all instream rights are in the span
pub record SpansInstream (b : Basin) (span : InstreamSpan) : Type 0 where
  pub order : span.first ≤ span.last
  pub within : span.last ≤ length b.rights
  pub others : (r : ℕ) → r < length b.rights → (r < span.first) ⊎ (span.last ≤ r) → instream_link b r ≡ None

-- the canals are those of the rounds, there is room to note each round, and the span has all instream rights
pub record HasRounds (b : Basin) (rounds : List (List ℕ)) (kept canals again : List ℕ) (span : InstreamSpan) : Type 0
  where
    pub are : AreRounds (record { basin = b; rounds = rounds; kept = kept })
    pub canals_are : canals ≡ map canal_of rounds
    pub noted : length again ≡ length rounds
    pub instream : SpansInstream b span
