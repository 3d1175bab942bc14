-- The basins of worked examples, here and in the crates above.
use Rattle.std.proofs.Common.{ℕ, true, false, List, [], ◌∷◌, replicate}
use Rattle.std.specs.Prelude.{None, codes}
use Rattle.water_text.specs.declared.day.Day.{Day}
use Rattle.water_model.specs.declared.types.Basin.{Basin}
use Rattle.water_model.specs.declared.types.Carry.{Carry}
use Rattle.water_model.specs.declared.types.Carry.TheVariants.{River, Canal}
use Rattle.water_model.specs.declared.types.Inflow.TheVariants.{Monthly, Gauged}
use Rattle.water_model.specs.declared.types.Series.{Series}
use Rattle.water_model.specs.declared.types.Link.{Link}
use Rattle.water_model.specs.declared.types.Node.{Node}
use Rattle.water_model.specs.declared.types.Right.{Right}
use Rattle.water_model.specs.declared.types.RightKind.{RightKind}
use Rattle.water_model.specs.declared.types.RightKind.TheVariants.{Diversion, Instream, Zone}
use Rattle.water_model.specs.declared.types.Want.TheVariants as wants

-- a node with the same inflow in each month
abbrev pub spring : List ℕ → ℕ → Node
spring name amount = record { name = name; outlet = false; inflow = Monthly (replicate 12 amount) }

abbrev pub gauge : List ℕ → Node
gauge name = record { name = name; outlet = false; inflow = Gauged }

abbrev pub outlet : List ℕ → Node
outlet name = record { name = name; outlet = true; inflow = Monthly (replicate 12 0) }

abbrev pub link : List ℕ → ℕ → ℕ → Carry → Link
link name tail head carry = record { name = name; from = tail; to = head; carry = carry }

abbrev pub river : List ℕ → ℕ → ℕ → Link
river name tail head = link name tail head River

-- a right of this day, with its wants from January onwards
abbrev pub right : List ℕ → Day → RightKind → List ℕ → Right
right name date kind want = record {
  name = name;
  date = date;
  order = 0;
  kind = kind;
  want = wants.Monthly want;
  volume = None;
  used = 0;
  season = replicate 12 true;
}

-- a right of the first day of a year, which wants the same each month
abbrev pub steady : List ℕ → ℕ → RightKind → ℕ → Right
steady name year kind amount = right name (record { year = year; month = 1; day = 1 }) kind (replicate 12 amount)

abbrev pub no_series : Series
no_series = record { gauged = []; amount = []; wanted = []; want = [] }

-- One month of a stream with this inflow at the top.
abbrev pub stream : ℕ → List Right → Basin
stream amount rights = record {
  format = 1;
  unit = None;
  first = record { year = 1900; month = 1 };
  months = 1;
  year_start = 10;
  nodes = spring (codes "top") amount ∷ spring (codes "mid") 0 ∷ outlet (codes "mouth") ∷ [];
  links = river (codes "a") 0 1 ∷ river (codes "b") 1 2 ∷ [];
  reservoirs = [];
  rights = rights;
  returns = [];
  due = [];
  accounts = [];
  draws = [];
}

-- diversions below the top and at it, and trout on the first river
abbrev pub old : Right
old = steady (codes "old") 1890 (Diversion 1) 60

abbrev pub new : ℕ → Right
new year = steady (codes "new") year (Diversion 0) 50

abbrev pub fish : Right
fish = steady (codes "fish") 1880 (Instream 0) 30

-- An ordinary basin: a gauged river into a lake with two zones, a weir with a canal to a farm, from which water comes
-- back, and trout below.
abbrev pub ordinary : Basin
ordinary = record {
  format = 1;
  unit = None;
  first = record { year = 1960; month = 7 };
  months = 2;
  year_start = 10;
  nodes =
      gauge (codes "upper") ∷ spring (codes "lake") 0 ∷ spring (codes "weir") 0 ∷ spring (codes "farm") 0
      ∷ spring (codes "gauge") 0 ∷ outlet (codes "sea") ∷ [];
  links =
      river (codes "r1") 0 1 ∷ river (codes "r2") 1 2 ∷ river (codes "r3") 2 4 ∷ river (codes "r4") 3 4
      ∷ river (codes "r5") 4 5 ∷ link (codes "c1") 2 3 (Canal 100 (replicate 12 false)) ∷ [];
  reservoirs =
      record {
        node = 1;
        opening = 8000;
        area = record { storage = 0; area = 0 } ∷ record { storage = 10000; area = 500 } ∷ [];
        rate = 10 ∷ 15 ∷ 30 ∷ 50 ∷ 80 ∷ 100 ∷ 110 ∷ 100 ∷ 80 ∷ 50 ∷ 20 ∷ 10 ∷ [];
      }
      ∷ [];
  rights =
      right (codes "canalco") (record { year = 1911; month = 6; day = 15 }) (Diversion 3)
      (0 ∷ 0 ∷ 0 ∷ 500 ∷ 2000 ∷ 3500 ∷ 4000 ∷ 3800 ∷ 1500 ∷ 300 ∷ 0 ∷ 0 ∷ [])
      ∷ steady (codes "city") 1930 (Diversion 2) 400
      ∷ right (codes "fish") (record { year = 1905; month = 4; day = 1 }) (Instream 4) (replicate 12 1500)
      ∷ steady (codes "dead") 1900 (Zone 0 1) 1000
      ∷ right (codes "live") (record { year = 1922; month = 3; day = 1 }) (Zone 0 2) (replicate 12 9000)
      ∷ [];
  returns = record { right = 0; node = 4; part = 2500; lag = 1; rest = 0 } ∷ [];
  due = [] ∷ [];
  accounts = [];
  draws = [];
}

abbrev pub ordinary_series : Series
ordinary_series = record { gauged = 0 ∷ []; amount = 2500 ∷ 1200 ∷ []; wanted = []; want = [] }
