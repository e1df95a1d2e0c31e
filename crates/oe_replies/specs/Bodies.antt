-- The bodies of errors, and those that say what the service is (openEO API, error handling and capabilities). A body is
-- the compact text of its JSON value, members in byte order.
use Rattle.std.specs.Prelude.{ℕ, List, [], ◌∷◌, map, Option, Some, None, codes, true}
use Rattle.serde_json.specs.Data.{Data, boolean, string, object, no_members, member}
use Rattle.oe_dims.specs.declared.text.Text.{Text}
use Rattle.oe_graph.specs.Codes as graphs
use Rattle.oe_graph.specs.declared.fault.Fault.{Fault}
use Rattle.oe_judge.specs.Texts.{with_detail}
use Rattle.oe_replies.specs.Json.{list_data, no_links}
use Rattle.oe_replies.specs.declared.root.Endpoint.{Endpoint}

-- ---- errors

-- the message is the code and, behind a blank, the detail, where there is one: the node of a graph's fault, or what the
-- line of a refused run names
abbrev pub error_data : List ℕ → List ℕ → Data
error_data code detail = object (
    member (codes "code") (string code) (
    member (codes "message") (string (with_detail code detail)) no_members))

abbrev pub fault_data : Fault → Data
fault_data fault = error_data (graphs.name_of fault.code) fault.node

-- the errors of a graph: its least fault, where it has one
abbrev pub faults_data : Option Fault → List Data
faults_data None = []
faults_data (Some fault) = fault_data fault ∷ []

abbrev pub validation_data : Option Fault → Data
validation_data fault = object (member (codes "errors") (list_data (faults_data fault)) no_members)

-- ---- what the service is

-- a path of the service, with its methods
pub record PlainEndpoint : Type 0 where
  pub path : List ℕ
  pub methods : List (List ℕ)

abbrev pub plain_endpoint : Endpoint → PlainEndpoint
plain_endpoint e = record { path = e.path; methods = e.methods.items }

abbrev pub endpoint_data : PlainEndpoint → Data
endpoint_data e = object (
    member (codes "methods") (list_data (map string e.methods)) (
    member (codes "path") (string e.path) no_members))

abbrev pub capabilities_data : List PlainEndpoint → Data
capabilities_data endpoints = object (
    member (codes "api_version") (string (codes "1.2.0")) (
    member (codes "backend_version") (string (codes "1.0.0")) (
    member (codes "description") (string (codes "Exact fraction cubes")) (
    member (codes "endpoints") (list_data (map endpoint_data endpoints)) (
    member (codes "id") (string (codes "openeo-fraction")) (
    member (codes "links") no_links (
    member (codes "stac_version") (string (codes "1.0.0")) (
    member (codes "title") (string (codes "openEO fraction back end")) (
    member (codes "type") (string (codes "Catalog")) no_members)))))))))

-- the one version of the API that is served, under the base
abbrev pub version_data : List ℕ → Data
version_data base = object (
    member (codes "api_version") (string (codes "1.2.0")) (
    member (codes "production") (boolean true) (
    member (codes "url") (string base) no_members)))

abbrev pub versions_data : List ℕ → Data
versions_data base = object (member (codes "versions") (list_data (version_data base ∷ [])) no_members)

-- the classes of the API that the service conforms to
abbrev pub conformance_data : Data
conformance_data =
    object (member (codes "conformsTo") (list_data (string (codes "https://api.openeo.org/1.2.0") ∷ [])) no_members)

-- the one file format, in which results are written: none is read
abbrev pub result_format_data : Data
result_format_data = object (
    member (codes "gis_data_types") (list_data (string (codes "raster") ∷ [])) (
    member (codes "parameters") (object no_members) (
    member (codes "title") (string (codes "Fraction cube JSON")) no_members)))

abbrev pub file_formats_data : Data
file_formats_data = object (
    member (codes "input") (object no_members) (
    member (codes "output") (object (member (codes "FJSON") result_format_data no_members)) no_members))
