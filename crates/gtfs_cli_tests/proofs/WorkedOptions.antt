-- Values of the options of a merge, and which of them is bad.
use Rattle.std.proofs.Common.{◌≡◌, Some, None, codes, refl}
use Rattle.gtfs_cli.specs.MergeOptions.{cutoff_of, first_bad_merge, near_of}

-- ---- up to how many millionths of a degree stops are near

no-distance : near_of None ≡ Some None
no-distance = refl

distance : near_of (Some (codes "500")) ≡ Some (Some 500)
distance = refl

greatest-distance : near_of (Some (codes "2147483647")) ≡ Some (Some 2_147_483_647)
greatest-distance = refl

too-far : near_of (Some (codes "2147483648")) ≡ None
too-far = refl

-- ---- the service day from which the second feed counts

no-cutoff : cutoff_of None ≡ Some None
no-cutoff = refl

no-day : cutoff_of (Some (codes "tomorrow")) ≡ None
no-day = refl

-- ---- the first bad value: the distance is judged before the day

distance-first : first_bad_merge (record { a = codes "a"; b = codes "b"; out = codes "c"; near = Some (codes "x"); cutoff = Some (codes "tomorrow") })
    ≡ Some (codes "--near")
distance-first = refl

then-day : first_bad_merge (record { a = codes "a"; b = codes "b"; out = codes "c"; near = Some (codes "1"); cutoff = Some (codes "tomorrow") })
    ≡ Some (codes "--cutoff")
then-day = refl

none-bad : first_bad_merge (record { a = codes "a"; b = codes "b"; out = codes "c"; near = None; cutoff = None }) ≡ None
none-bad = refl
