-- The run of the river and its text on worked basins, by a plain slow program.
use Rattle.std.proofs.Common.{◌≡◌, ℕ, zero, suc, ◌+◌, Bool, true, false, not, refl, List, [], ◌∷◌, length, map}
use Rattle.std.proofs.Common.{replicate}
use Rattle.std.specs.Prelude.{None, ◌==◌, ◌&&◌, codes, if◌then◌else◌}
use Rattle.std.specs.List.{list_any, range_with_len}
use Rattle.std.specs.Fmt.{digits}
use Rattle.finite_sums.specs.Sums.{total, total_where}
use Rattle.water_text.specs.declared.month.Month.{Month}
use Rattle.water_model.specs.Network.{tail_in, head_in, is_river_in, is_outlet_in}
use Rattle.water_model.specs.Hydrology.{run_month, inflow_at}
use Rattle.result_lines.specs.Spelling.{fields_of, line_of}
use Rattle.water_model.specs.Indices.{numbers_from, members_from, by_seniority}
use Rattle.water_model.specs.History.{calls, calling_right}
use Rattle.result_lines.specs.Text.{text, month_lines}
use Rattle.water_model.specs.declared.types.Basin.{Basin}
use Rattle.water_model.specs.declared.types.Carry.{Carry}
use Rattle.water_model.specs.declared.types.Carry.TheVariants.{River, Canal}
use Rattle.water_model.specs.declared.types.Inflow.TheVariants.{Monthly}
use Rattle.water_model.specs.declared.types.Series.{Series}
use Rattle.water_model.specs.declared.types.Link.{Link}
use Rattle.water_model.specs.declared.types.MonthRecord.{MonthRecord}
use Rattle.water_model.specs.declared.types.Node.{Node}

-- a river, and no river before it leaves the same node
abbrev is_first_river : List Link → ℕ → Bool
is_first_river links e =
    is_river_in links e && not
    (list_any (λ o. is_river_in links o && tail_in links o == tail_in links e) (range_with_len 0 e))

-- the water at a node, where no walk has more than k links
abbrev water : List Link → (ℕ → ℕ) → ℕ → ℕ → ℕ
water links supply zero n = supply n
water links supply (suc k) n =
    supply n + total_where (length links) (λ e. is_first_river links e && head_in links e == n)
    (λ e. water links supply k (tail_in links e))

abbrev flow_on : Basin → (ℕ → ℕ) → ℕ → ℕ
flow_on b supply e = if is_first_river b.links e then water b.links supply (length b.nodes) (tail_in b.links e) else 0

abbrev outflow_at : Basin → (ℕ → ℕ) → ℕ → ℕ
outflow_at b supply n = if is_outlet_in b.nodes n then water b.links supply (length b.nodes) n else 0

abbrev no_series : Series
no_series = record { gauged = []; amount = []; wanted = []; want = [] }

-- the record of month i in a basin of nodes and links alone
abbrev river_month : Basin → ℕ → MonthRecord
river_month b i =
    let supply : ℕ → ℕ = λ n. inflow_at b no_series n i in
    record {
      index = i;
      month = run_month b i;
      opening = [];
      evaporated = [];
      returned = replicate (length b.nodes) 0;
      used = [];
      supply = map supply (range_with_len 0 (length b.nodes));
      want = [];
      plan = record {
        flow = map (flow_on b supply) (range_with_len 0 (length b.links));
        take = [];
        out = map (outflow_at b supply) (range_with_len 0 (length b.nodes));
      };
      delivered = [];
      cuts = record { nodes = length b.nodes; sets = [] };
      closing = [];
    }

abbrev river_text : Basin → List (List ℕ)
river_text b = text b (map (river_month b) (range_with_len 0 b.months))

abbrev node : List ℕ → List ℕ → Bool → Node
node name amounts outlet = record { name = name; outlet = outlet; inflow = Monthly amounts }

abbrev link : List ℕ → ℕ → ℕ → Carry → Link
link name tail head carry = record { name = name; from = tail; to = head; carry = carry }

abbrev basin : Month → ℕ → List Node → List Link → Basin
basin first months nodes links = record {
  format = 1;
  unit = None;
  first = first;
  months = months;
  year_start = 10;
  nodes = nodes;
  links = links;
  reservoirs = [];
  rights = [];
  returns = [];
  due = [];
  accounts = [];
  draws = [];
}

-- three nodes in a row
abbrev straight : Basin
straight = basin (record { year = 1900; month = 1 }) 1
    (node (codes "top") (replicate 12 80) false ∷ node (codes "mid") (replicate 12 0) false ∷ node (codes "mouth")
    (replicate 12 0) true ∷ [])
    (link (codes "a") 0 1 River ∷ link (codes "b") 1 2 River ∷ [])

straight_text : river_text straight ≡ codes "river-result 1\n" ∷ codes "run 1900-01 1\n" ∷ codes
    "month 1900-01\n" ∷ codes "flow a 80\n" ∷ codes "flow b 80\n"
    ∷ codes "out mouth 80\n" ∷ codes "end\n" ∷ codes "done 1\n" ∷ []
unfolding total digits fields_of line_of numbers_from members_from by_seniority month_lines calls calling_right
straight_text = refl

-- an inflow for each month, over the turn of a year
abbrev turning : Basin
turning = basin (record { year = 1900; month = 12 }) 2
    (node (codes "top") (range_with_len 1 12) false ∷ node (codes "mouth") (replicate 12 0) true ∷ [])
    (link (codes "a") 0 1 River ∷ [])

turning_text : river_text turning ≡ codes "river-result 1\n" ∷ codes "run 1900-12 2\n" ∷ codes "month 1900-12\n" ∷ codes
    "flow a 12\n" ∷ codes "out mouth 12\n" ∷ codes "end\n"
    ∷ codes "month 1901-01\n" ∷ codes "flow a 1\n" ∷ codes "out mouth 1\n" ∷ codes "end\n" ∷ codes "done 2\n" ∷ []
unfolding total digits fields_of line_of numbers_from members_from by_seniority month_lines calls calling_right
turning_text = refl

-- a river that divides and rejoins, beside a canal: the second branch and the canal stay dry
abbrev branching : Basin
branching = basin (record { year = 1900; month = 1 }) 1
    (node [] (replicate 12 5) false ∷ node [] (replicate 12 1) false ∷ node [] (replicate 12 2) false ∷ node []
    (replicate 12 0) true ∷ [])
    (link [] 0 2 (Canal 9 (replicate 12 false)) ∷ link [] 0 1 River ∷ link [] 0 2 River ∷ link [] 1 3 River ∷ link [] 2
    3 River ∷ [])

branching_flows : (river_month branching 0).plan.flow ≡ 0 ∷ 5 ∷ 0 ∷ 6 ∷ 2 ∷ []
unfolding total
branching_flows = refl

branching_out : (river_month branching 0).plan.out ≡ 0 ∷ 0 ∷ 0 ∷ 8 ∷ []
unfolding total
branching_out = refl
