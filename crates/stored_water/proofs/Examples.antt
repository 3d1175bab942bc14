-- Worked numbers.
use Rattle.std.proofs.Common.{◌≡◌, ℕ, zero, suc, ◌+◌, ◌-◌, ◌^◌, ◌<◌, ◌≤◌, true, false, refl, arith, List, [], ◌∷◌, inr}
use Rattle.std.proofs.Common.{replicate}
use Rattle.std.specs.Prelude.{codes, None, Some, slice_index, Option, Bool}
use Rattle.finite_sums.specs.Sums.{total, greatest_where}
use Rattle.water_text.specs.declared.month.Month.{Month}
use Rattle.water_model.specs.declared.types.Account.{Account}
use Rattle.water_model.specs.declared.types.Basin.{Basin}
use Rattle.water_model.specs.declared.types.Draw.{Draw}
use Rattle.water_model.specs.declared.types.Link.{Link}
use Rattle.water_model.specs.declared.types.Node.{Node}
use Rattle.water_model.specs.declared.types.Reservoir.{Reservoir}
use Rattle.water_model.specs.declared.types.Right.{Right}
use Rattle.water_model.specs.declared.types.RightKind.TheVariants.{Diversion, Instream, Zone}
use Rattle.water_model.specs.Plans.{carry_of, inflow_to, outflow_from}
use Rattle.water_model.specs.Hydrology.{number_in}
use Rattle.water_model.proofs.Worked.{spring, outlet, link, river, steady, right, no_series}
use Rattle.water_model.specs.declared.types.Carry.TheVariants.{Canal}
use Rattle.water_model.specs.Accounts.{IsLedger, Ledger, drawn_from, left_of, loss_of}
use Rattle.water_model.specs.Accounts.{spill_of, fill_of, zone_want, natural_at, first_want}
use Rattle.water_model.specs.Accounts.{is_in_season, closing_with}
use Rattle.water_model.specs.Courses.{IsStop, IsStopWithin, IsCourse, IsCourseWithin, HasCourse, IsGreatestDraw}
use Rattle.water_model.specs.Courses.{after_draw, held_on}
use Rattle.water_model.specs.Draws.{cap_of, draw_want, taken_with, got_by}
use Rattle.water_model.specs.Volumes.{used_by_right, used_by_draw}
use Rattle.stored_water.proofs.Stopping.{stop_bounds, stops_make_draws_greatest}

-- ---- basins

abbrev january : Month
january = record { year = 1900; month = 1 }

-- a basin of format 3, from January to March of a water year
abbrev basin : List Node → List Link → List Reservoir → List Right → List Account → List Draw → Basin
basin nodes links reservoirs rights accounts draws = record {
  format = 3;
  unit = None;
  first = january;
  months = 3;
  year_start = 1;
  nodes = nodes;
  links = links;
  reservoirs = reservoirs;
  rights = rights;
  returns = [];
  due = [];
  accounts = accounts;
  draws = draws;
}

-- a lake from which nothing evaporates
abbrev lake : ℕ → ℕ → Reservoir
lake node opening =
    record { node = node; opening = opening; area = record { storage = 0; area = 0 } ∷ []; rate = replicate 12 0 }

abbrev account : ℕ → ℕ → Account
account zone stored = record { name = codes "co"; zone = zone; space = 100; stored = stored }

-- a draw of as much as there is, which is taken at this node
abbrev draw : ℕ → ℕ → Draw
draw diversion node =
    record { diversion = diversion; account = 0; node = node; want = replicate 12 1000000000; volume = None; used = 0 }

-- a month in which an account carries and is filled with these amounts
abbrev month_with : (carried filled : List ℕ) → Ledger
month_with carried filled = record {
  opening = carried;
  lost = [];
  spilled = [];
  carried = carried;
  filled = filled;
  drawn = [];
  closing = [];
}

-- the number of each right in month i
abbrev number : Basin → ℕ → ℕ → ℕ
number b i right = number_in b no_series i right

-- the cap of draw j in month i, after draws of these amounts
abbrev cap : Basin → ℕ → (delivered carried amounts : List ℕ) → ℕ → ℕ
cap b i delivered carried amounts j =
    cap_of b (draw_want b i (0 ∷ 0 ∷ [])) (number b i) delivered (month_with carried (0 ∷ [])) amounts j

-- ---- an account below which others divert

-- a lake above a weir, where 30 flow in; land there has an account of 100 in the lake, and old is senior to it
abbrev below : Basin
below =
    basin
    (spring (codes "lake") 0 ∷ spring (codes "weir") 30 ∷ outlet (codes "mouth") ∷ [])
    (river (codes "a") 0 1 ∷ river (codes "b") 1 2 ∷ [])
    (lake 0 100 ∷ [])
    (steady (codes "old") 1890 (Diversion 1) 60 ∷ steady (codes "land") 1930 (Diversion 1) 50
    ∷ steady (codes "pool") 1920 (Zone 0 1) 100 ∷ [])
    (account 2 100 ∷ [])
    (draw 1 1 ∷ [])

-- what the account carries is nobody's to divert, and its zone is full
first_supply : natural_at below (100 ∷ 30 ∷ 0 ∷ []) (100 ∷ []) 0 ≡ 0
unfolding total
first_supply = refl

full_zone : first_want below no_series 0 (number below 0) (0 ∷ 0 ∷ 0 ∷ []) (100 ∷ []) 2 ≡ 0
unfolding total
full_zone = refl

-- so old gets the 30 of the river, and land, which gets none of them, draws its 50
land_cap : cap below 0 (30 ∷ 0 ∷ 0 ∷ []) (100 ∷ []) (50 ∷ []) 0 ≡ 50
unfolding total
land_cap = refl

land_got : got_by below (30 ∷ 0 ∷ 0 ∷ []) (50 ∷ []) 1 ≡ 50
unfolding total
land_got = refl

-- which is taken at the weir beside the 30, and kept at the lake no more
at_weir : taken_with below (30 ∷ 0 ∷ 0 ∷ []) (month_with (100 ∷ []) (0 ∷ [])) 1 (50 ∷ []) 1 ≡ 80
unfolding total
at_weir = refl

at_lake : taken_with below (30 ∷ 0 ∷ 0 ∷ []) (month_with (100 ∷ []) (0 ∷ [])) 1 (50 ∷ []) 0 ≡ 50
unfolding total
at_lake = refl

lake_closes : closing_with below (30 ∷ 0 ∷ 0 ∷ []) (50 ∷ []) 0 ≡ 50
unfolding total
lake_closes = refl

-- at the lake itself nothing has to move
stays : after_draw (100 ∷ 30 ∷ 0 ∷ []) 0 0 50 ≡ 100 ∷ 30 ∷ 0 ∷ []
stays = refl

-- ---- an exchange

-- land at the top draws on an account in a lake that joins below
abbrev exchange : Basin
exchange =
    basin
    (spring (codes "top") 40 ∷ spring (codes "weir") 0 ∷ outlet (codes "mouth") ∷ spring (codes "lake") 0 ∷ [])
    (river (codes "a") 0 1 ∷ river (codes "b") 1 2 ∷ river (codes "c") 3 1 ∷ [])
    (lake 3 100 ∷ [])
    (steady (codes "old") 1890 (Diversion 1) 40 ∷ steady (codes "land") 1930 (Diversion 0) 50
    ∷ steady (codes "fish") 1880 (Instream 0) 25 ∷ steady (codes "pool") 1920 (Zone 0 1) 100 ∷ [])
    (account 3 100 ∷ [])
    (draw 1 0 ∷ draw 1 1 ∷ [])

abbrev full : Ledger
full = month_with (100 ∷ []) (0 ∷ [])

-- what is taken before the draw, and its cap
taken_top : taken_with exchange (40 ∷ 0 ∷ 25 ∷ 0 ∷ []) full 0 (15 ∷ []) 0 ≡ 0
unfolding total
taken_top = refl

taken_weir : taken_with exchange (40 ∷ 0 ∷ 25 ∷ 0 ∷ []) full 0 (15 ∷ []) 1 ≡ 40
unfolding total
taken_weir = refl

taken_lake : taken_with exchange (40 ∷ 0 ∷ 25 ∷ 0 ∷ []) full 0 (15 ∷ []) 3 ≡ 100
unfolding total
taken_lake = refl

top_cap : cap exchange 0 (40 ∷ 0 ∷ 25 ∷ 0 ∷ []) (100 ∷ []) (15 ∷ []) 0 ≡ 50
unfolding total
top_cap = refl

-- and after it
taken_lake_after : taken_with exchange (40 ∷ 0 ∷ 25 ∷ 0 ∷ []) full 1 (15 ∷ []) 3 ≡ 85
unfolding total
taken_lake_after = refl

moves : after_draw (0 ∷ 40 ∷ 0 ∷ 100 ∷ []) 3 0 15 ≡ 15 ∷ 40 ∷ 0 ∷ 85 ∷ []
moves = refl

held_first : held_on exchange (40 ∷ 0 ∷ 25 ∷ 0 ∷ []) 0 ≡ 25
unfolding greatest_where
held_first = refl

-- what is held for the fish and what the land draws is all that comes in at the top
top_stops : IsStop exchange january (held_on exchange (40 ∷ 0 ∷ 25 ∷ 0 ∷ [])) (40 ∷ 0 ∷ 0 ∷ 100 ∷ [])
    (15 ∷ 40 ∷ 0 ∷ 85 ∷ []) 3 0 (true ∷ false ∷ false ∷ false ∷ [])
unfolding total greatest_where
top_stops = record { one_each = refl; drawing = refl; storing = refl; full = refl }

-- with no fish it is 40
top_stops_alone : IsStop exchange january (λ e. 0) (40 ∷ 0 ∷ 0 ∷ 100 ∷ []) (40 ∷ 40 ∷ 0 ∷ 60 ∷ []) 3 0
    (true ∷ false ∷ false ∷ false ∷ [])
unfolding total
top_stops_alone = record { one_each = refl; drawing = refl; storing = refl; full = refl }

course : IsCourse exchange january (held_on exchange (40 ∷ 0 ∷ 25 ∷ 0 ∷ [])) (40 ∷ 0 ∷ 0 ∷ 100 ∷ [])
    (15 ∷ 40 ∷ 0 ∷ 85 ∷ []) (25 ∷ 0 ∷ 15 ∷ []) (0 ∷ 0 ∷ 0 ∷ 0 ∷ [])
unfolding total greatest_where
course = record {
  taken_len = refl;
  flow_len = refl;
  out_len = refl;
  carries = carries;
  holds = holds;
  outlets = λ n l h. none n;
  balance = balance;
}
  where
    none : (n : ℕ) → slice_index (0 ∷ 0 ∷ 0 ∷ 0 ∷ []) n ≡ 0
    none zero = refl
    none (suc zero) = refl
    none (suc (suc zero)) = refl
    none (suc (suc (suc zero))) = refl
    none (suc (suc (suc (suc n)))) = refl

    carries : (e : ℕ) → e < 3 → slice_index (25 ∷ 0 ∷ 15 ∷ []) e ≤ carry_of exchange january e
    carries zero l = omega arith
    carries (suc zero) l = omega arith
    carries (suc (suc zero)) l = omega arith
    carries (suc (suc (suc e))) l = absurd (omega arith)

    holds : (e : ℕ) → e < 3 → held_on exchange (40 ∷ 0 ∷ 25 ∷ 0 ∷ []) e ≤ slice_index (25 ∷ 0 ∷ 15 ∷ []) e
    holds zero l = omega arith
    holds (suc zero) l = omega arith
    holds (suc (suc zero)) l = omega arith
    holds (suc (suc (suc e))) l = absurd (omega arith)

    balance : (n : ℕ) → n < 4 →
        slice_index (40 ∷ 0 ∷ 0 ∷ 100 ∷ []) n + inflow_to exchange (25 ∷ 0 ∷ 15 ∷ []) n
        ≡ outflow_from exchange (25 ∷ 0 ∷ 15 ∷ []) n + slice_index (15 ∷ 40 ∷ 0 ∷ 85 ∷ []) n
        + slice_index (0 ∷ 0 ∷ 0 ∷ 0 ∷ []) n
    balance zero l = refl
    balance (suc zero) l = refl
    balance (suc (suc zero)) l = refl
    balance (suc (suc (suc zero))) l = refl
    balance (suc (suc (suc (suc n)))) l = absurd (omega arith)

-- so 15 of its cap of 50 is the greatest draw
greatest : IsGreatestDraw exchange january (held_on exchange (40 ∷ 0 ∷ 25 ∷ 0 ∷ [])) (40 ∷ 0 ∷ 0 ∷ 100 ∷ [])
    (0 ∷ 40 ∷ 0 ∷ 100 ∷ []) 3 0 50 15
greatest =
    stops_make_draws_greatest exchange january (held_on exchange (40 ∷ 0 ∷ 25 ∷ 0 ∷ [])) (40 ∷ 0 ∷ 0 ∷ 100 ∷ [])
    (0 ∷ 40 ∷ 0 ∷ 100 ∷ []) (25 ∷ 0 ∷ 15 ∷ []) (0 ∷ 0 ∷ 0 ∷ 0 ∷ []) 3 0 50 15 (omega arith) course
    (inr (true ∷ false ∷ false ∷ false ∷ [], top_stops))

-- where 40 of the cap were drawn at the top, 10 more may be drawn at the weir, and are taken there
weir_cap : cap exchange 0 (40 ∷ 0 ∷ 0 ∷ 0 ∷ []) (100 ∷ []) (40 ∷ 10 ∷ []) 1 ≡ 10
unfolding total
weir_cap = refl

taken_weir_after : taken_with exchange (40 ∷ 0 ∷ 0 ∷ 0 ∷ []) full 2 (40 ∷ 10 ∷ []) 1 ≡ 50
unfolding total
taken_weir_after = refl

taken_top_after : taken_with exchange (40 ∷ 0 ∷ 0 ∷ 0 ∷ []) full 2 (40 ∷ 10 ∷ []) 0 ≡ 40
unfolding total
taken_top_after = refl

-- and after 50 at the weir the cap at the top is 0
top_cap_after : cap_of (record exchange { draws = draw 1 1 ∷ draw 1 0 ∷ [] }) (λ j. 1000000000) (number exchange 0)
    (40 ∷ 0 ∷ 0 ∷ 0 ∷ []) full (50 ∷ 0 ∷ []) 1 ≡ 0
unfolding total
top_cap_after = refl

-- ---- a canal

-- a lake above a weir, with a canal of 1 a day from the one to the other, and a river past it
abbrev by_canal : Basin
by_canal =
    basin
    (spring (codes "lake") 0 ∷ spring (codes "weir") 0 ∷ outlet (codes "mouth") ∷ [])
    (link (codes "canal") 0 1 (Canal 1 (replicate 12 false)) ∷ river (codes "b") 1 2 ∷ river (codes "c") 0 2 ∷ [])
    (lake 0 100 ∷ [])
    (steady (codes "old") 1890 (Diversion 1) 60 ∷ steady (codes "land") 1930 (Diversion 1) 50
    ∷ steady (codes "pool") 1920 (Zone 0 1) 100 ∷ [])
    (account 2 100 ∷ [])
    (draw 1 1 ∷ [])

-- in 31 days the canal brings 31 of a cap of 50
weir_stops : IsStopWithin by_canal (λ e. 31) (λ e. 0) (100 ∷ 0 ∷ 0 ∷ []) (69 ∷ 31 ∷ 0 ∷ []) 0 1
    (false ∷ true ∷ false ∷ [])
unfolding total
weir_stops = record { one_each = refl; drawing = refl; storing = refl; full = refl }

-- ---- a draw that has a course only with a later one

-- Water of a lake reaches a field through a hub and a canal, which is full. A tank at the field serves the user there
-- in the place of the canal, where an owner at the hub draws on it. So the first draw, from the lake for the field, is
-- 0, and yet there is a course with 31 of the first and 31 of the second.
abbrev tank : Basin
tank =
    basin
    (spring (codes "lake") 0 ∷ spring (codes "hub") 31 ∷ spring (codes "field") 0 ∷ outlet (codes "mouth") ∷ [])
    (river (codes "a") 0 1 ∷ river (codes "b") 1 3 ∷ link (codes "canal") 1 2 (Canal 1 (replicate 12 false))
    ∷ river (codes "c") 2 3 ∷ [])
    (lake 0 31 ∷ lake 2 31 ∷ [])
    (steady (codes "old") 1890 (Diversion 2) 31 ∷ steady (codes "low") 1930 (Diversion 2) 31
    ∷ steady (codes "high") 1931 (Diversion 1) 31 ∷ steady (codes "pool") 1920 (Zone 0 1) 31
    ∷ steady (codes "cell") 1921 (Zone 1 1) 31 ∷ [])
    []
    []

-- the carries in a month of 31 days
abbrev tank_carry : ℕ → ℕ
tank_carry e = slice_index (10 ^ 15 ∷ 10 ^ 15 ∷ 31 ∷ 10 ^ 15 ∷ []) e

-- the lake keeps 31, and at the field the user takes 31 and the tank keeps 31
field_stops : IsStopWithin tank tank_carry (λ e. 0) (31 ∷ 31 ∷ 31 ∷ 0 ∷ [])
    (after_draw (31 ∷ 0 ∷ 62 ∷ 0 ∷ []) 0 2 0) 0 2 (false ∷ false ∷ true ∷ false ∷ [])
unfolding total
field_stops = record { one_each = refl; drawing = refl; storing = refl; full = refl }

-- so by itself the first draw is 0
first_is_none : (x : ℕ) → HasCourse tank tank_carry (λ e. 0) (31 ∷ 31 ∷ 31 ∷ 0 ∷ [])
    (after_draw (31 ∷ 0 ∷ 62 ∷ 0 ∷ []) 0 2 x) → x ≤ 0
first_is_none x course =
    stop_bounds tank tank_carry (λ e. 0) (31 ∷ 31 ∷ 31 ∷ 0 ∷ []) (31 ∷ 0 ∷ 62 ∷ 0 ∷ []) 0 2 0
    (false ∷ false ∷ true ∷ false ∷ []) x field_stops course

both_taken : after_draw (after_draw (31 ∷ 0 ∷ 62 ∷ 0 ∷ []) 0 2 31) 2 1 31 ≡ 0 ∷ 31 ∷ 62 ∷ 0 ∷ []
both_taken = refl

-- and with the second it may be 31
both : IsCourseWithin tank tank_carry (λ e. 0) (31 ∷ 31 ∷ 31 ∷ 0 ∷ []) (0 ∷ 31 ∷ 62 ∷ 0 ∷ [])
    (31 ∷ 0 ∷ 31 ∷ 0 ∷ []) (0 ∷ 0 ∷ 0 ∷ 0 ∷ [])
unfolding total
both = record {
  taken_len = refl;
  flow_len = refl;
  out_len = refl;
  carries = carries;
  holds = λ e l. omega arith;
  outlets = λ n l h. none n;
  balance = balance;
}
  where
    none : (n : ℕ) → slice_index (0 ∷ 0 ∷ 0 ∷ 0 ∷ []) n ≡ 0
    none zero = refl
    none (suc zero) = refl
    none (suc (suc zero)) = refl
    none (suc (suc (suc zero))) = refl
    none (suc (suc (suc (suc n)))) = refl

    carries : (e : ℕ) → e < 4 → slice_index (31 ∷ 0 ∷ 31 ∷ 0 ∷ []) e ≤ tank_carry e
    carries zero l = omega arith
    carries (suc zero) l = omega arith
    carries (suc (suc zero)) l = omega arith
    carries (suc (suc (suc zero))) l = omega arith
    carries (suc (suc (suc (suc e)))) l = absurd (omega arith)

    balance : (n : ℕ) → n < 4 →
        slice_index (31 ∷ 31 ∷ 31 ∷ 0 ∷ []) n + inflow_to tank (31 ∷ 0 ∷ 31 ∷ 0 ∷ []) n
        ≡ outflow_from tank (31 ∷ 0 ∷ 31 ∷ 0 ∷ []) n + slice_index (0 ∷ 31 ∷ 62 ∷ 0 ∷ []) n
        + slice_index (0 ∷ 0 ∷ 0 ∷ 0 ∷ []) n
    balance zero l = refl
    balance (suc zero) l = refl
    balance (suc (suc zero)) l = refl
    balance (suc (suc (suc zero))) l = refl
    balance (suc (suc (suc (suc n)))) l = absurd (omega arith)

-- ---- loss, spill and fill

-- two accounts of 50 in a zone that may hold 100
abbrev two : Basin
two =
    basin (spring (codes "lake") 0 ∷ outlet (codes "mouth") ∷ []) (river (codes "a") 0 1 ∷ []) (lake 0 100 ∷ [])
    (steady (codes "pool") 1920 (Zone 0 1) 100 ∷ [])
    (record { name = codes "a"; zone = 0; space = 50; stored = 33 }
    ∷ record { name = codes "b"; zone = 0; space = 50; stored = 50 } ∷ [])
    []

-- of 10 that evaporate from 100 they lose 4 and 5, and what is nobody's the rest
first_loss : loss_of two (100 ∷ []) (10 ∷ []) (33 ∷ 50 ∷ []) 0 ≡ 4
unfolding total
first_loss = refl

second_loss : loss_of two (100 ∷ []) (10 ∷ []) (33 ∷ 50 ∷ []) 1 ≡ 5
unfolding total
second_loss = refl

-- the zone wants 26 of the 16 that are nobody's
nobodys : natural_at two (90 ∷ 0 ∷ []) (29 ∷ 45 ∷ []) 0 ≡ 16
unfolding total
nobodys = refl

zone_wants : zone_want two 0 (number two 0) (0 ∷ []) (29 ∷ 45 ∷ []) 0 ≡ 26
unfolding total
zone_wants = refl

-- and they are shared by the rooms of 21 and 5
first_fill : fill_of two (16 ∷ []) (29 ∷ 45 ∷ []) 0 ≡ 12
unfolding total
first_fill = refl

second_fill : fill_of two (16 ∷ []) (29 ∷ 45 ∷ []) 1 ≡ 4
unfolding total
second_fill = refl

-- so the month of the two
month_of_two : IsLedger two (100 ∷ []) (10 ∷ []) (number two 0) (16 ∷ []) [] (record {
  opening = 33 ∷ 50 ∷ [];
  lost = 4 ∷ 5 ∷ [];
  spilled = 0 ∷ 0 ∷ [];
  carried = 29 ∷ 45 ∷ [];
  filled = 12 ∷ 4 ∷ [];
  drawn = 0 ∷ 0 ∷ [];
  closing = 41 ∷ 49 ∷ [];
})
unfolding total
month_of_two = record {
  fits = record {
    opening = refl;
    lost = refl;
    spilled = refl;
    carried = refl;
    filled = refl;
    drawn = refl;
    closing = refl;
  };
  lost = lost;
  spilled = spilled;
  carried = carried;
  filled = filled;
  drawn = drawn;
  closing = closing;
}
  where
    lost : (k : ℕ) → k < 2 →
        slice_index (4 ∷ 5 ∷ []) k ≡ loss_of two (100 ∷ []) (10 ∷ []) (33 ∷ 50 ∷ []) k
    lost zero l = refl
    lost (suc zero) l = refl
    lost (suc (suc k)) l = absurd (omega arith)

    spilled : (k : ℕ) → k < 2 →
        slice_index (0 ∷ 0 ∷ []) k ≡ spill_of two (number two 0) (33 ∷ 50 ∷ []) (4 ∷ 5 ∷ []) k
    spilled zero l = refl
    spilled (suc zero) l = refl
    spilled (suc (suc k)) l = absurd (omega arith)

    carried : (k : ℕ) → k < 2 →
        slice_index (29 ∷ 45 ∷ []) k
        ≡ left_of (33 ∷ 50 ∷ []) (4 ∷ 5 ∷ []) k - slice_index (0 ∷ 0 ∷ []) k
    carried zero l = refl
    carried (suc zero) l = refl
    carried (suc (suc k)) l = absurd (omega arith)

    filled : (k : ℕ) → k < 2 → slice_index (12 ∷ 4 ∷ []) k ≡ fill_of two (16 ∷ []) (29 ∷ 45 ∷ []) k
    filled zero l = refl
    filled (suc zero) l = refl
    filled (suc (suc k)) l = absurd (omega arith)

    drawn : (k : ℕ) → k < 2 → slice_index (0 ∷ 0 ∷ []) k ≡ drawn_from two 0 [] k
    drawn zero l = refl
    drawn (suc zero) l = refl
    drawn (suc (suc k)) l = absurd (omega arith)

    closing : (k : ℕ) → k < 2 →
        slice_index (41 ∷ 49 ∷ []) k
        ≡ slice_index (29 ∷ 45 ∷ []) k + slice_index (12 ∷ 4 ∷ []) k - slice_index (0 ∷ 0 ∷ []) k
    closing zero l = refl
    closing (suc zero) l = refl
    closing (suc (suc k)) l = absurd (omega arith)

-- ---- one fill, a season, and a curve of what may be held

-- a zone with these wants, a volume and a season, and one account of 100
abbrev pool : List ℕ → Option ℕ → List Bool → Basin
pool amounts volume season =
    basin
    (spring (codes "lake") 80 ∷ spring (codes "weir") 0 ∷ outlet (codes "mouth") ∷ [])
    (river (codes "a") 0 1 ∷ river (codes "b") 1 2 ∷ [])
    (lake 0 0 ∷ [])
    (steady (codes "land") 1930 (Diversion 1) 70
    ∷ record (right (codes "pool") (record { year = 1920; month = 1; day = 1 }) (Zone 0 1) amounts) {
      volume = volume;
      season = season;
    }
    ∷ [])
    (account 1 0 ∷ [])
    (draw 0 1 ∷ [])

-- with a volume of 95 it wants 95 in January, 15 in February, when 80 are used, and nothing in March
abbrev one_fill : Basin
one_fill = pool (replicate 12 100) (Some 95) (replicate 12 true)

wants_first : zone_want one_fill 0 (number one_fill 0) (0 ∷ 0 ∷ []) (0 ∷ []) 1 ≡ 95
unfolding total
wants_first = refl

used_second : used_by_right one_fill ((0 ∷ 80 ∷ []) ∷ (65 ∷ 15 ∷ []) ∷ []) 1 1 ≡ 80
unfolding total
used_second = refl

wants_second : zone_want one_fill 1 (number one_fill 1) (0 ∷ 80 ∷ []) (80 ∷ []) 1 ≡ 15
unfolding total
wants_second = refl

wants_third : zone_want one_fill 2 (number one_fill 2) (0 ∷ 95 ∷ []) (90 ∷ []) 1 ≡ 0
unfolding total
wants_third = refl

-- what is filled in January can't be drawn in it; in February land draws the 5 that the river lacks
cap_first : cap one_fill 0 (0 ∷ 80 ∷ []) (0 ∷ []) (0 ∷ []) 0 ≡ 0
unfolding total
cap_first = refl

cap_second : cap one_fill 1 (65 ∷ 15 ∷ []) (80 ∷ []) (5 ∷ []) 0 ≡ 5
unfolding total
cap_second = refl

-- where the number falls from 100 to 60, an account of 100 spills 40
abbrev flood_space : Basin
flood_space = pool (100 ∷ 60 ∷ replicate 10 100) None (replicate 12 true)

spill : spill_of flood_space (number flood_space 1) (100 ∷ []) (0 ∷ []) 0 ≡ 40
unfolding total
spill = refl

-- a zone that fills in January and March alone: in February it spills 10 over its number, and wants nothing
abbrev seasonal : Basin
seasonal = pool (100 ∷ 20 ∷ replicate 10 100) None (true ∷ false ∷ true ∷ replicate 9 false)

out_of_season : is_in_season seasonal 1 1 ≡ false
out_of_season = refl

still_spills : spill_of seasonal (number seasonal 1) (30 ∷ []) (0 ∷ []) 0 ≡ 10
unfolding total
still_spills = refl

wants_nothing : zone_want seasonal 1 (number seasonal 1) (0 ∷ 0 ∷ []) (15 ∷ []) 1 ≡ 0
unfolding total
wants_nothing = refl

wants_again : zone_want seasonal 2 (number seasonal 2) (0 ∷ 0 ∷ []) (20 ∷ []) 1 ≡ 80
unfolding total
wants_again = refl

-- ---- volumes

-- land has a volume of 30, an account, and a river of 30
abbrev used_up : Option ℕ → ℕ → Draw → Basin
used_up volume used drawing =
    basin
    (spring (codes "lake") 0 ∷ spring (codes "weir") 30 ∷ outlet (codes "mouth") ∷ [])
    (river (codes "a") 0 1 ∷ river (codes "b") 1 2 ∷ [])
    (lake 0 100 ∷ [])
    (record (steady (codes "land") 1930 (Diversion 1) 50) { volume = volume; used = used }
    ∷ steady (codes "pool") 1920 (Zone 0 1) 100 ∷ [])
    (account 1 100 ∷ [])
    (drawing ∷ [])

abbrev one_volume : Basin
one_volume = used_up (Some 30) 0 (draw 0 1)

-- in January it gets the 30 and draws 20; in February its volume is used up, and it draws its 50
cap_january : cap one_volume 0 (30 ∷ 0 ∷ []) (100 ∷ []) (20 ∷ []) 0 ≡ 20
unfolding total
cap_january = refl

used_february : used_by_right one_volume ((30 ∷ 0 ∷ []) ∷ []) 0 1 ≡ 30
unfolding total
used_february = refl

want_february : first_want one_volume no_series 1 (number one_volume 1) (30 ∷ 0 ∷ []) (80 ∷ []) 0 ≡ 0
unfolding total
want_february = refl

cap_february : cap one_volume 1 (0 ∷ 0 ∷ []) (80 ∷ []) (50 ∷ []) 0 ≡ 50
unfolding total
cap_february = refl

-- where 5 of the volume were used before the run, and 20 of a draw's 60
abbrev with_volumes : Basin
with_volumes = used_up (Some 30) 5 (record (draw 0 1) { volume = Some 60; used = 20 })

-- land gets 25, and draws what it lacks; draws use up no volume of its
used_at_first : used_by_right with_volumes [] 0 0 ≡ 5
unfolding total
used_at_first = refl

used_since : used_by_right with_volumes ((25 ∷ 0 ∷ []) ∷ []) 0 1 ≡ 30
unfolding total
used_since = refl

cap_beside : cap with_volumes 0 (25 ∷ 0 ∷ []) (100 ∷ []) (25 ∷ []) 0 ≡ 25
unfolding total
cap_beside = refl

-- with nothing left of its volume it may draw all of its number, as far as the draw's volume goes
first_want_left : first_want with_volumes no_series 1 (number with_volumes 1) (30 ∷ 0 ∷ []) (75 ∷ []) 0 ≡ 0
unfolding total
first_want_left = refl

drew_before : used_by_draw with_volumes ((25 ∷ []) ∷ []) 0 1 ≡ 45
unfolding total
drew_before = refl

cap_left : cap_of with_volumes (draw_want with_volumes 1 (45 ∷ [])) (number with_volumes 1) (0 ∷ 0 ∷ [])
    (month_with (75 ∷ []) (0 ∷ [])) (15 ∷ []) 0 ≡ 15
unfolding total
cap_left = refl

-- in the water year that follows nothing is used
used_anew : used_by_right with_volumes (replicate 12 (2 ∷ 0 ∷ [])) 0 12 ≡ 0
unfolding total
used_anew = refl
