-- The settings of a build as plain data.
use Rattle.std.specs.Prelude.{◌≤◌, ℕ, List, length}
use Rattle.pthash.specs.declared.TheConstants.{MAX_PARTITIONS, MAX_PILOTS}
use Rattle.pthash.specs.Shapes.{ShapeData, IsShape}
use Rattle.bucket_map.specs.ShapeData.{shape_data}
use Rattle.settings.specs.declared.settings.TheConstants.{MAX_SEEDS, MAX_WORKERS}
use Rattle.settings.specs.declared.how.How.{How}
use Rattle.settings.specs.declared.settings.Settings.{Settings}
use Rattle.settings.specs.Workers.{workers_of}

-- the settings of a build
pub record SettingsData : Type 0 where
  pub seeds : List ℕ
  pub shape : ShapeData
  pub parts : ℕ
  pub limit : ℕ
  pub how : How

-- each is in its range
pub record AreInRange (s : SettingsData) : Type 0 where
  pub some_seed : 1 ≤ length s.seeds
  pub few_seeds : length s.seeds ≤ MAX_SEEDS
  pub shape : IsShape s.shape
  pub some_partition : 1 ≤ s.parts
  pub few_partitions : s.parts ≤ MAX_PARTITIONS
  pub some_pilot : 1 ≤ s.limit
  pub few_pilots : s.limit ≤ MAX_PILOTS
  pub some_worker : 1 ≤ workers_of s.how
  pub few_workers : workers_of s.how ≤ MAX_WORKERS

-- settings as data
abbrev pub settings_data : Settings → SettingsData
settings_data s = record { seeds = s.seeds.items; shape = shape_data s.shape; parts = s.parts; limit = s.limit; how = s.how }
