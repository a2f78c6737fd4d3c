-- A volume as a tuple, by which proofs tell volumes apart.
use Rattle.std.specs.Prelude.{ℕ, List, refl}
use Rattle.std.specs.Coded.{Coded, code_by, coded×, coded_ℕ, coded_list}
use Rattle.std.specs.FinMap as map
use Rattle.std.specs.FinMap.{FinMap}
use Rattle.std.specs.Ordering.{nat_cmp}
use Rattle.sl_model.specs.declared.node.Node.{Node}
use Rattle.sl_model.specs.declared.node.Entry.{Entry}
use Rattle.sl_model.specs.contracts.node.Node as node
use Rattle.sl_model.specs.contracts.node.Entry as entry
use Rattle.sl_model.specs.Volume.{Volume, Unstable, name_cmp, place_cmp}

abbrev pub used_code : Coded (Unit {0})
used_code = code_by ℕ coded_ℕ (λ u. 0) (λ n. tt) (λ u. refl)

abbrev pub unstable_code : Coded Unstable
unstable_code = code_by (ℕ × (ℕ × (List ℕ × (ℕ × ℕ)))) (coded× coded_ℕ (coded× coded_ℕ (coded× (coded_list coded_ℕ) (coded× coded_ℕ coded_ℕ))))
    (λ w. (w.fileid, (w.offset, (w.bytes, (w.moment.sec, w.moment.nsec)))))
    (λ p. record { fileid = p.0; offset = p.1.0; bytes = p.1.1.0; moment = record { sec = p.1.1.1.0; nsec = p.1.1.1.1 } }) (λ w. refl)

abbrev pub volume_code : Coded Volume
volume_code = code_by (ℕ × (FinMap nat_cmp Node × (FinMap name_cmp Entry × (FinMap nat_cmp (List ℕ) × (FinMap place_cmp ℕ × (List Unstable × (ℕ × FinMap nat_cmp (Unit {0}))))))))
    (coded× coded_ℕ (coded× (map.code coded_ℕ node.the_row.coded) (coded× (map.code (coded× coded_ℕ (coded_list coded_ℕ)) entry.the_row.coded) (coded× (map.code coded_ℕ (coded_list coded_ℕ))
    (coded× (map.code (coded× coded_ℕ coded_ℕ) coded_ℕ) (coded× (coded_list unstable_code) (coded× coded_ℕ (map.code coded_ℕ used_code))))))))
    (λ v. (v.number, (v.nodes, (v.names, (v.texts, (v.written, (v.unstable, (v.verifier, v.used))))))))
    (λ p. record { number = p.0; nodes = p.1.0; names = p.1.1.0; texts = p.1.1.1.0; written = p.1.1.1.1.0; unstable = p.1.1.1.1.1.0; verifier = p.1.1.1.1.1.1.0; used = p.1.1.1.1.1.1.1 }) (λ v. refl)
