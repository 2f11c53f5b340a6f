-- What a table of each version states of rates and holds.
use Rattle.std.proofs.Common.{◌≡◌, ℕ, ◌≤◌, ◌⊎◌, inl, inr, List, [], ◌∷◌, map, codes, false, Some, None, unwrap_or, refl, arith}
use Rattle.std.specs.List.{AllByRecursion}
use Rattle.std.specs.Prelude.{IfSome}
use Rattle.toml.specs.Data.{Data}
use Rattle.a429_word.proofs.Lists.{all_mapped}
use Rattle.a429_table.specs.declared.fault.FaultKind.TheVariants.{Rate, Hold}
use Rattle.a429_table.specs.declared.fault.TablePlace.TheVariants.{Root, Group, Output}
use Rattle.a429_equipment.specs.declared.version.TableVersion.{TableVersion}
use Rattle.a429_equipment.specs.declared.version.TableVersion.TheVariants.{One, Two}
use Rattle.a429_table.specs.Tree.{integer_at, get_integer, rows_at}
use Rattle.a429_equipment.specs.Version.{version_number}
use Rattle.a429_table.specs.Version.{version_of}
use Rattle.a429_table.specs.Faults.{stands, has_wrong_rate, has_bad_hold}
use Rattle.a429_table.specs.Stated.{rate_at, rate_of, group_row, hold_of, output_row, output_rows}
use Rattle.a429_equipment.specs.Sound.{IsRate, IsHold, HaveNoHolds}
use Rattle.a429_table.proofs.Absence.{IsAbsent, groups_hold, all_from}
use Rattle.a429_table.proofs.SoundValues.{rate_within, hold_within}

pub one_or_two : (v : TableVersion) → (version_number v ≡ 1) ⊎ (version_number v ≡ 2)
one_or_two One = inl refl
one_or_two Two = inr refl

-- ---- rates

rate_is : (v : TableVersion) (root : Data) → has_wrong_rate v Root root ≡ false → IfSome (rate_of v root) IsRate
unfolding has_wrong_rate
rate_is One root h = rate_within (integer_at (codes "rate") root) h
rate_is Two root h = tt

pub root_rate : (root : Data) → IsAbsent root Rate → IfSome (rate_of (version_of root) root) IsRate
unfolding stands
root_rate root h = rate_is (version_of root) root h.at_root

group_rate_is : (v : TableVersion) (root : Data) (n : ℕ) (g : Data) → has_wrong_rate v Root root ≡ false → has_wrong_rate v (Group n) g ≡ false
    → IsRate (unwrap_or (rate_of v root) (rate_at g))
unfolding has_wrong_rate
group_rate_is One root n g h i = rate_within (integer_at (codes "rate") root) h
group_rate_is Two root n g h i = rate_within (integer_at (codes "rate") g) i

pub group_rates : (root : Data) → IsAbsent root Rate → AllByRecursion (λ d. IsRate (unwrap_or (rate_of (version_of root) root) (rate_at d))) (rows_at (codes "group") root)
unfolding stands
group_rates root h = groups_hold _ _ (λ n g e _. group_rate_is (version_of root) root n g h.at_root e) 0 (rows_at (codes "group") root) h.at_groups

all_of_rate : (rate : ℕ) (ds : List Data) → AllByRecursion (λ g. g.rate ≡ rate) (map (group_row (Some rate)) ds)
unfolding group_row
all_of_rate rate [] = tt
all_of_rate rate (d ∷ ds) = (refl, all_of_rate rate ds)

pub one_rate : (v : TableVersion) (root : Data) (ds : List Data) → version_number v ≡ 1
    → (rate : ℕ) × (rate_of v root ≡ Some rate) × AllByRecursion (λ g. g.rate ≡ rate) (map (group_row (rate_of v root)) ds)
one_rate One root ds one = (rate_at root, refl, all_of_rate (rate_at root) ds)
one_rate Two root ds one = absurd (omega arith)

pub own_rates : (v : TableVersion) (root : Data) → version_number v ≡ 2 → rate_of v root ≡ None
own_rates One root two = absurd (omega arith)
own_rates Two root two = refl

-- ---- holds

hold_is : (v : TableVersion) (n j : ℕ) (d : Data) → has_bad_hold (Output n j) d ≡ false → IfSome (hold_of v d) (λ hold. (1 ≤ hold) × (hold ≤ 1000000))
unfolding has_bad_hold
hold_is One n j d h = tt
hold_is Two n j d h = hold_within (get_integer (codes "hold") d) h

pub hold_at : (root : Data) (n j : ℕ) (d : Data) → stands root Hold (Output n j, d) ≡ false → IsHold (output_row root d)
unfolding stands output_row
hold_at root n j d h = hold_is (version_of root) n j d h

no_hold : (v : TableVersion) (d : Data) → version_number v ≡ 1 → hold_of v d ≡ None
no_hold One d one = refl
no_hold Two d one = absurd (omega arith)

no_hold_at : (root d : Data) → version_number (version_of root) ≡ 1 → (output_row root d).hold ≡ None
unfolding output_row
no_hold_at root d one = no_hold (version_of root) d one

pub no_holds : (root : Data) → version_number (version_of root) ≡ 1 → HaveNoHolds (map (output_rows root) (rows_at (codes "group") root))
no_holds root one =
    let gs = rows_at (codes "group") root in
    all_mapped (output_rows root) _ gs
    (all_from _ gs (λ n g e. all_mapped (output_row root) _ (rows_at (codes "output") g) (all_from _ (rows_at (codes "output") g) (λ j d f. no_hold_at root d one))))
