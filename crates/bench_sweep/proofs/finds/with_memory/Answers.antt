use Rattle.std.proofs.Common.{◌≡◌, ap, arith, length, refl}
use Rattle.board_model.specs.Shapes.{Size, ram_bytes_of}
use Rattle.bench_report.specs.Views.{store_size}
use Rattle.bench_sweep.proofs.Loaded.{found_loaded, not_loaded}
use Rattle.bench_sweep.proofs.finds.with_memory.Goals as goal

pub returns-in-Ok : goal.returns-in-Ok
returns-in-Ok c = record {
  told = found_loaded c.plain_of-plain.result c.args.found.now c.args.store c.args.store c.load_image.new.ram c.into_bytes.result.items refl c.in-Ok.ensures.loads c.into_bytes.ensures c.plain_of-plain.ensures;
}

pub returns-in-Err : goal.returns-in-Err
returns-in-Err c = record {
  told = (
      let store = c.args.store in
      let ram = c.args.ram in
      let long : length ram ≡ ram_bytes_of (store_size store) = omega (arith, c.pages.ensures.value, c.pages-2.ensures.value, c.if-pages.false, ap (λ (z : Size). z.pages) c.shape.ensures) in
      not_loaded c.args.found.now store c.load_image.new.self ram c.in-Err.field-0 long c.requires.image c.in-Err.ensures.refused c.whole_images_load.ensures c.unloaded.result store c.into_disk.result refl c.into_disk.ensures.fault_state
      c.unloaded.ensures.spoilt);
}
