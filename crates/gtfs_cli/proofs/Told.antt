-- What the error output is told.
use Rattle.std.proofs.Common.{sym, ℕ, inl, inr, List, Result, Ok, Err, take, drop, take-append-drop}
use Rattle.std.specs.Prelude.{IfErr, OnErr, OnOk}
use Rattle.std.specs.Io.KnownBytes.{Appends}
use Rattle.gtfs_devices.specs.Device.{Rises}
use Rattle.gtfs_devices.specs.declared.output.OutFault.{OutFault}
use Rattle.gtfs_cli.specs.SentText.{Output, Sends}

-- a text went out whole, or its first bytes did
pub sent-so : {A : Type 0} (r : Result A OutFault) (before after : Output) (text : List ℕ) → OnOk r (Appends before.told after.told text)
    → IfErr r (λ fault. Appends before.told after.told (take fault.written text)) → OnErr r (Rises before.failures after.failures) → Sends before after text
sent-so (Ok done) before after text whole first counted = inl whole
sent-so (Err fault) before after text whole first counted =
    inr (record { sent = take fault.written text; left = drop fault.written text; whole = sym (take-append-drop fault.written text); out = first }, counted)
