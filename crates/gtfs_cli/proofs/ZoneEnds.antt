-- What the folders hold under the path of a file is judged in one way.
use Rattle.std.proofs.Common.{◌≡◌, ◌≢◌, ◌∙◌, ap, sym, subst, refl, ℕ, ◌<◌, ◌⊎◌, inl, inr, length, List, [], Some, None, codes, arith}
use Rattle.std.specs.Prelude.{option_map}
use Rattle.std.specs.FinMap as map
use Rattle.gtfs_days.specs.Zone.{transitions_of, IsUnreadable, IsZoneOf, SaysSame}
use Rattle.gtfs_days.specs.declared.zone.Zone.{Zone}
use Rattle.gtfs_days.proofs.Footers.{no_bad_rule}
use Rattle.gtfs_days.proofs.SameZones.{zones_one}
use Rattle.jiff_tz.specs.Tzif as Table
use Rattle.gtfs_devices.specs.Device.{Rises}
use Rattle.gtfs_devices.specs.Folder.{file_in, Files, Finds, HasFileOver, LacksFolder, Store}
use Rattle.gtfs_cli.specs.FilesInFolders.{HoldsSomeZone, FitsZone, HasBytes, HoldsBytes, HoldsFile, HoldsNoZone, HoldsZone, LacksFile, NamesNoFile}
use Rattle.gtfs_cli.specs.ReadingCauses.{IsPathCause, IsZoneCause}
use Rattle.gtfs_cli.specs.RefusalOrder.{zone}
use Rattle.gtfs_cli.specs.BoardsCommand.{request_file}
use Rattle.gtfs_cli.specs.RefusalMessages.{line_of}
use Rattle.gtfs_cli.specs.CommandOutcomes.{IsPlainRefusal}
use Rattle.gtfs_cli.specs.declared.commands.refusal.Refusal.{Refusal}
use Rattle.gtfs_cli.specs.declared.commands.refusal.Refusal.TheVariants.{NotThere, Unreadable, OverLimit, NoZone, OutOfMemory}
use Rattle.gtfs_cli.proofs.OneRefusal.{alike, line-at, Alike, Excludes, One, Quiet, Says}
use Rattle.gtfs_cli.proofs.PathCuts.{together}

module _ (limit : ℕ) (store : Store) (path : List ℕ) where
  -- ---- what the folders hold under the path

  abbrev Lacks : List ℕ → List ℕ → Type 0
  Lacks folder name = (0 < length name) × (LacksFolder (Some store) folder ⊎ Finds (Some store) folder name None)

  abbrev IsOver : List ℕ → List ℕ → Type 0
  IsOver folder name = (0 < length name) × HasFileOver limit (Some store) folder name

  abbrev Nameless : List ℕ → List ℕ → Type 0
  Nameless folder name = name ≡ []

  not_named : (name : List ℕ) → 0 < length name → name ≡ [] → ⊥
  not_named name named none = omega (arith, named, ap (λ (t : List ℕ). length t) none)

  -- a file is there or it is not
  not_there_with : (folder name bytes : List ℕ) → LacksFolder (Some store) folder ⊎ Finds (Some store) folder name None → file_in store folder name ≡ Some (Some bytes) → ⊥
  not_there_with folder name bytes (inl none) is = cc (sym (ap (option_map (λ (files : Files). map.get files name)) none) ∙ is)
  not_there_with folder name bytes (inr none) is = cc (sym none ∙ is)

  one_bytes : (folder name xs ys : List ℕ) → file_in store folder name ≡ Some (Some xs) → file_in store folder name ≡ Some (Some ys) → xs ≡ ys
  one_bytes folder name xs ys first second =
      let same : Some (Some xs) ≡ Some (Some ys) = sym first ∙ second in
      cc same

  pub lacks_nameless : LacksFile (Some store) path → NamesNoFile path → ⊥
  lacks_nameless a b =
      let t = together path Lacks Nameless a b in
      not_named t.name t.fact.0.0 t.fact.1

  pub lacks_over : LacksFile (Some store) path → HoldsFile limit (Some store) path → ⊥
  lacks_over a b =
      let t = together path Lacks IsOver a b in
      not_there_with t.folder t.name t.fact.1.1.0 t.fact.0.1 t.fact.1.1.1

  pub lacks_bytes : (bytes : List ℕ) → LacksFile (Some store) path → HoldsBytes limit (Some store) path bytes → ⊥
  lacks_bytes bytes a b =
      let t = together path Lacks (HasBytes (Some store) bytes) a b.0 in
      not_there_with t.folder t.name bytes t.fact.0.1 t.fact.1.1

  pub nameless_over : NamesNoFile path → HoldsFile limit (Some store) path → ⊥
  nameless_over a b =
      let t = together path Nameless IsOver a b in
      not_named t.name t.fact.1.0 t.fact.0

  pub nameless_bytes : (bytes : List ℕ) → NamesNoFile path → HoldsBytes limit (Some store) path bytes → ⊥
  nameless_bytes bytes a b =
      let t = together path Nameless (HasBytes (Some store) bytes) a b.0 in
      not_named t.name t.fact.1.0 t.fact.0

  pub over_bytes : (bytes : List ℕ) → HoldsFile limit (Some store) path → HoldsBytes limit (Some store) path bytes → ⊥
  over_bytes bytes a b =
      let t = together path IsOver (HasBytes (Some store) bytes) a b.0 in
      let same = one_bytes t.folder t.name t.fact.0.1.0 bytes t.fact.0.1.1 t.fact.1.1 in
      omega (arith, t.fact.0.1.2, b.1, ap (λ (text : List ℕ). length text) same)

  pub same_bytes : (xs ys : List ℕ) → HoldsBytes limit (Some store) path xs → HoldsBytes limit (Some store) path ys → xs ≡ ys
  same_bytes xs ys a b =
      let t = together path (HasBytes (Some store) xs) (HasBytes (Some store) ys) a.0 b.0 in
      one_bytes t.folder t.name xs ys t.fact.0.1 t.fact.1.1

  -- ---- zones

  -- bytes of a zone are a zone file
  readable : (bytes : List ℕ) (z : Zone) → IsZoneOf bytes z → FitsZone bytes → IsUnreadable bytes → ⊥
  readable bytes z is fits (inl long) = fits long
  readable bytes z is fits (inr (inl fault)) = cc (rw is.read at fault)
  readable bytes z is fits (inr (inr bad)) = no_bad_rule (transitions_of z) is.agrees (subst Table.HasBadRule is.read bad)

  unread : (z : Zone) → HoldsNoZone limit (Some store) path → HoldsZone limit (Some store) path z → ⊥
  unread z a b =
      let same = same_bytes a.bytes b.bytes a.holds b.holds in
      readable b.bytes z b.is_zone b.fits (subst IsUnreadable same a.unreadable)

  -- the zones of the file say the same
  pub same_zones : (y z : Zone) → HoldsZone limit (Some store) path y → HoldsZone limit (Some store) path z → SaysSame y z
  same_zones y z a b =
      let same = same_bytes b.bytes a.bytes b.holds a.holds in
      zones_one a.bytes y z a.is_zone (subst (λ (bytes : List ℕ). IsZoneOf bytes z) same b.is_zone)

  -- ---- a file

  abbrev Lacking : Refusal → Type 0
  Lacking r = LacksFile (Some store) path × Says r (line_of path (codes " is not there")) 3

  abbrev Unnamed : Refusal → Type 0
  Unnamed r = NamesNoFile path × Says r (line_of path (codes " cannot be read")) 3

  abbrev Over : Refusal → Type 0
  Over r = HoldsFile limit (Some store) path × Says r (line_of path (codes " holds a file over the limit")) 3

  abbrev FileReason : Refusal → Type 0
  FileReason r = Lacking r ⊎ (Unnamed r ⊎ Over r)

  file-reason : (before after : ℕ) → (Rises before after → ⊥) → (r : Refusal) → r ≢ OutOfMemory → IsPathCause limit (Some store) path before after r → FileReason r
  file-reason before after still (NotThere named) enough h = inl (h.1, (line-at named.now path (codes " is not there") h.0, refl))
  file-reason before after still (Unreadable named) enough (at, inl rises) = absurd (still rises)
  file-reason before after still (Unreadable named) enough (at, inr none) = inr (inl (none, (line-at named.now path (codes " cannot be read") at, refl)))
  file-reason before after still (OverLimit named) enough h = inr (inr (h.1, (line-at named.now path (codes " holds a file over the limit") h.0, refl)))
  file-reason before after still OutOfMemory enough h = absurd (enough refl)
  file-reason before after still _ enough h = absurd h

  pub no-file-reason : (bytes : List ℕ) → HoldsBytes limit (Some store) path bytes → (r : Refusal) → FileReason r → ⊥
  no-file-reason bytes holds r (inl a) = lacks_bytes bytes a.0 holds
  no-file-reason bytes holds r (inr (inl a)) = nameless_bytes bytes a.0 holds
  no-file-reason bytes holds r (inr (inr a)) = over_bytes bytes a.0 holds

  one-reason : (r s : Refusal) → FileReason r → FileReason s → Alike r s
  one-reason r s (inl a) (inl b) = alike r s (line_of path (codes " is not there")) 3 a.1 b.1
  one-reason r s (inl a) (inr (inl b)) = absurd (lacks_nameless a.0 b.0)
  one-reason r s (inl a) (inr (inr b)) = absurd (lacks_over a.0 b.0)
  one-reason r s (inr (inl a)) (inl b) = absurd (lacks_nameless b.0 a.0)
  one-reason r s (inr (inl a)) (inr (inl b)) = alike r s (line_of path (codes " cannot be read")) 3 a.1 b.1
  one-reason r s (inr (inl a)) (inr (inr b)) = absurd (nameless_over a.0 b.0)
  one-reason r s (inr (inr a)) (inl b) = absurd (lacks_over b.0 a.0)
  one-reason r s (inr (inr a)) (inr (inl b)) = absurd (nameless_over b.0 a.0)
  one-reason r s (inr (inr a)) (inr (inr b)) = alike r s (line_of path (codes " holds a file over the limit")) 3 a.1 b.1

  reason-of-file : (r : Refusal) → IsPlainRefusal (request_file limit (Some store) path) r → FileReason r
  reason-of-file r h = file-reason h.before.folders h.after.folders h.nowhere.folders r h.enough h.cause

  pub one-file : One (request_file limit (Some store) path)
  one-file r s g h = one-reason r s (reason-of-file r g) (reason-of-file s h)

  pub excludes-file : Excludes ((bytes : List ℕ) × HoldsBytes limit (Some store) path bytes) (request_file limit (Some store) path)
  excludes-file holds r h = no-file-reason holds.0 holds.1 r (reason-of-file r h)

  pub quiet-file : Quiet (request_file limit (Some store) path)
  quiet-file h = h.cause

  -- ---- a zone file

  abbrev Unzoned : Refusal → Type 0
  Unzoned r = HoldsNoZone limit (Some store) path × Says r (line_of path (codes " is no zone file")) 3

  zone-reason : (before after : ℕ) → (Rises before after → ⊥) → (r : Refusal) → r ≢ OutOfMemory → IsZoneCause limit (Some store) path before after r → Unzoned r ⊎ FileReason r
  zone-reason before after still (NoZone named) enough h = inl (h.1, (line-at named.now path (codes " is no zone file") h.0, refl))
  zone-reason before after still (NotThere named) enough h = inr (file-reason before after still (NotThere named) enough h)
  zone-reason before after still (Unreadable named) enough h = inr (file-reason before after still (Unreadable named) enough h)
  zone-reason before after still (OverLimit named) enough h = inr (file-reason before after still (OverLimit named) enough h)
  zone-reason before after still OutOfMemory enough h = absurd (enough refl)
  zone-reason before after still _ enough h = absurd h

  reason-of-zone : (r : Refusal) → IsPlainRefusal (zone limit (Some store) path) r → Unzoned r ⊎ FileReason r
  reason-of-zone r h = zone-reason h.before.folders h.after.folders h.nowhere.folders r h.enough h.cause

  pub one-zone : One (zone limit (Some store) path)
  one-zone r s g h = by (reason-of-zone r g) (reason-of-zone s h)
    where
      by : Unzoned r ⊎ FileReason r → Unzoned s ⊎ FileReason s → Alike r s
      by (inl a) (inl b) = alike r s (line_of path (codes " is no zone file")) 3 a.1 b.1
      by (inl a) (inr b) = absurd (no-file-reason a.0.bytes a.0.holds s b)
      by (inr a) (inl b) = absurd (no-file-reason b.0.bytes b.0.holds r a)
      by (inr a) (inr b) = one-reason r s a b

  pub excludes-zone : Excludes (HoldsSomeZone limit (Some store) path) (zone limit (Some store) path)
  excludes-zone holds r h = elim (reason-of-zone r h) [ inl a ↦ unread holds.0 a.0 holds.1 | inr a ↦ no-file-reason holds.1.bytes holds.1.holds r a ]

  pub quiet-zone : Quiet (zone limit (Some store) path)
  quiet-zone h = h.cause
