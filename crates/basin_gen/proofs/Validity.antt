-- Generated basins are valid, and need no series.
use Rattle.std.proofs.Common.{◌≡◌, ℕ, zero, suc, ◌+◌, ◌<◌, ◌≤◌, refl, sym, ◌∙◌, arith, Bool, false, [], length}
use Rattle.std.specs.Prelude.{filter}
use Rattle.water_model.specs.Lookups.{of_entry}
use Rattle.water_model.specs.Indices.{numbers_from}
use Rattle.water_model.specs.Valid.{IsValidBasin, IsSeriesOf, is_gauged, is_gauged_kind, is_series, is_zone_with_rule}
use Rattle.finite_sums.specs.Sums.{total}
use Rattle.water_model.specs.Stores.{first_stored, sum_in_reservoir}
use Rattle.water_model.specs.declared.types.Basin.{Basin}
use Rattle.basin_gen.specs.Entries.{node_at}
use Rattle.basin_gen.specs.Generator.{generated}
use Rattle.basin_gen.proofs.Lists.{states_of, generated_made, right_made, right_count, all_rights}
use Rattle.basin_gen.proofs.Places.{entry_is}
use Rattle.basin_gen.proofs.NetworkLaws.{nodes_valid, links_valid, open_canals, reservoirs_valid, nodes_own, links_own}
use Rattle.basin_gen.proofs.NetworkLaws.{reservoirs_own, network_sound}
use Rattle.basin_gen.proofs.RightsLaws.{rights_own, roll_sound, bounded_rows}
use Rattle.basin_gen.proofs.RightsValid.{rights_valid, no_volumes, no_rests, returns_valid}
use Rattle.basin_gen.proofs.RightsValid.{rights_alone, rights_ranked, right_has_no_rule, right_has_wants}

-- without accounts nothing is stored in them
nothing_stored : (b : Basin) (v : ℕ) → length b.accounts ≡ 0 → sum_in_reservoir b (first_stored b) v ≡ 0
unfolding total
nothing_stored b v none = rw none refl

pub generated_valid : (number size : ℕ) → 2 ≤ size → size ≤ 2000 → IsValidBasin (generated number size)
unfolding generated
generated_valid number size some bounded =
    let b = generated number size in
    let s = states_of number size in
    let made = generated_made number size in
    let nodes = made.nodes.count in
    let links = made.links.count in
    let rights = made.rights.count in record {
      format = record {
        format = (omega arith, omega arith);
        year_start = (omega arith, omega arith);
        first = λ e. record {
          year_start = refl;
          open_canals = open_canals b size s made;
          volumes = no_volumes b size s made;
          no_series = all_rights (λ r. is_series r.want ≡ false) b size s made (right_has_wants size s);
        };
        second = λ _. record {
          unit = refl;
          accounts = refl;
          draws = refl;
          rights = rights_alone b size s made;
          rests = no_rests b size s made;
          due = λ k d l. absurd (omega arith);
        };
      };
      run = record {
        first = record { year = (omega arith, omega arith); month = (omega arith, omega arith) };
        months = (omega arith, omega arith);
        ends = omega arith;
      };
      bounded = record {
        some_node = omega arith;
        nodes = omega arith;
        links = omega arith;
        rights = omega arith;
        rows = λ right l. bounded_rows b size s made right;
        accounts = omega arith;
        draws = omega arith;
      };
      nodes = nodes_valid b size s bounded made;
      links = links_valid b size s bounded made;
      reservoirs = reservoirs_valid b size s made;
      rights = rights_valid b size s some bounded made;
      ranked = rights_ranked number size;
      returns = returns_valid b size s some bounded made;
      due = record {
        rows = omega arith;
        amounts = λ k d l. absurd (omega arith);
        bounded = λ k l. omega arith;
      };
      names = record {
        nodes = nodes_own b size s bounded made;
        links = links_own b size s bounded made;
        rights = rights_own b size s bounded made;
        reservoirs = reservoirs_own b size s made;
      };
      network = network_sound b size s made;
      roll = roll_sound b size s bounded made;
      stores = record {
        accounts = λ k d l. absurd (omega arith);
        draws = λ k d l. absurd (omega arith);
        alone = λ r l _.
            entry_is b.rights (right_count size) (right_made size s) made.rights is_zone_with_rule false r
            (omega arith)
            ∙ right_has_no_rule size s r (omega arith);
        stored = λ v l. omega (arith, nothing_stored b v refl);
        names = λ i j below l. absurd (omega arith);
        own_draws = λ i j below l. absurd (omega arith);
      };
    }

-- no index passes a test
none_of : (p : ℕ → Bool) (from count : ℕ) → ((k : ℕ) → k < from + count → p k ≡ false) →
    filter p (numbers_from from count) ≡ []
unfolding numbers_from
none_of p from zero h = refl
none_of p from (suc count) h = rw (h from (omega arith)) (none_of p (suc from) count (λ k l. h k (omega arith)))

pub no_series : (number size : ℕ) →
    IsSeriesOf (generated number size) (record { gauged = []; amount = []; wanted = []; want = [] })
unfolding generated
no_series number size =
    let b = generated number size in
    let s = states_of number size in
    let made = generated_made number size in record {
      gauged = sym (none_of (λ n. is_gauged b n) 0 (length b.nodes)
          (λ k l. entry_is b.nodes size (λ i. node_at size i (s.nodes i)) made.nodes (λ n. is_gauged_kind n.inflow)
          false k (let len = made.nodes.count in omega arith)));
      amounts = omega arith;
      small_amounts = λ k d l. absurd (omega arith);
      wanted = sym (none_of (λ r. of_entry b.rights r (λ right. is_series right.want) false) 0 (length b.rights)
          (λ k l. let len = made.rights.count in
          entry_is b.rights (right_count size) (right_made size s) made.rights (λ right. is_series right.want) false k
          (omega arith)
          ∙ right_has_wants size s k (omega arith)));
      wants = omega arith;
      small_wants = λ k d l. absurd (omega arith);
    }
