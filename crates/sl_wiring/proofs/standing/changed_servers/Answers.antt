use Rattle.std.proofs.Common.{ℕ, List, subst}
use Rattle.sl_plain.specs.declared.names.Place.{Place}
use Rattle.sl_wiring.specs.Standing.{AddsServers}
use Rattle.sl_wiring.proofs.Changes.{of_byte, of_name, of_object, servers_are}
use Rattle.sl_wiring.proofs.standing.changed_servers.Goals as goal

pub returns : goal.returns
returns c =
    let objects = subst (λ (xs : List ℕ). AddsServers c.new-servers.result.items c.add_objects.new.servers.items (of_object c.args.setup) xs) c.as_slice.ensures.value c.in_ok-add_objects.ensures in
    let names = subst (λ (xs : List Place). AddsServers c.add_objects.new.servers.items c.add_names.new.servers.items (of_name c.args.setup) xs) c.as_slice-2.ensures.value c.in_ok-add_names.ensures in
    let bytes = subst (λ (xs : List (ℕ × ℕ)). AddsServers c.add_names.new.servers.items c.add_bytes.new.servers.items (of_byte c.args.setup) xs) c.as_slice-3.ensures.value c.in_ok-add_bytes.ensures in
    servers_are c.args.setup c.args.before.now c.args.after.now c.in_ok-differences.differences c.new-servers.result.items c.add_objects.new.servers.items c.add_names.new.servers.items c.add_bytes.new.servers.items
    c.in_ok-differences.ensures c.new-servers.ensures.items objects names bytes
